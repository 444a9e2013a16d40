-- What holds of every device after a turn.
-- serves: DumpLemmas, TakenLemmas
use Rattle.std.proofs.Common.{◌≡◌, ℕ, true, List, Option, Some, None, refl, sym, ◌∙◌, ap, subst, inl, inr}
use Rattle.std.specs.Prelude.{◌↔◌}
use Rattle.g_job.specs.Spending.{SpendsBy}
use Rattle.g_job.specs.State.{JobState}
use Rattle.g_rules.specs.declared.turn.Turn.{Turn}
use Rattle.g_rules.specs.declared.turn.Turn.TheVariants as turns
use Rattle.g_store_meaning.specs.StoreInvariant.{StoreFacts}
use Rattle.g_run_model.specs.Devices.{Devices}
use Rattle.g_run_model.specs.World.{with_job}
use Rattle.g_job_table.specs.Crew.{CrewState}
use Rattle.g_job_table.specs.Numbers.{AreOpen, job_in}
use Rattle.g_run_model.specs.Texts.{shown}
use Rattle.g_day.specs.declared.progress.Failure.{Failure}
use Rattle.g_day.specs.declared.progress.Failure.TheVariants.{Memory}
use Rattle.g_day.specs.Parts.{IsReady, seen}
use Rattle.g_day.specs.System.{Down, DumpsGrow, SystemBelongs, SystemFacts, Up, SameDevices, devices_in}
use Rattle.g_ticks.specs.Tick.{KeepsRun}
use Rattle.g_ticks.specs.Turning.{EndsTurn, LeftBy}
use Rattle.g_ticks.proofs.RanLemmas.{StaysOver, StaysSafe}
use Rattle.g_ticks.proofs.TurningLemmas.{left_devices, numbers_are, open_is, ready_is, safe_left, safe_turned, same_devices, system_is, text_is, turned_system}
use Rattle.g_day.proofs.GrowLemmas.{grow_held, grow_itself}
use Rattle.g_day.proofs.LabelLemmas.{same_itself}

belongs_turned : (turn : Turn) (s : StoreFacts) → SystemBelongs (Up s) → SystemBelongs (turned_system turn s)
belongs_turned turns.Broken s is = record { told = is.0; belong = is.1.devices }
belongs_turned (turns.Wants serial) s is = is
belongs_turned (turns.Ran units money) s is = is
belongs_turned (turns.Ended units money) s is = is

belongs_left : (s : StoreFacts) (system : SystemFacts) → LeftBy s system → SystemBelongs (Up s) → SystemBelongs system
belongs_left s system (inl (unspent, at)) is = subst (λ (x : SystemFacts). SystemBelongs x) (sym at) is
belongs_left s system (inr (spent, at)) is =
    subst (λ (x : SystemFacts). SystemBelongs x) (sym at) (let d : SystemFacts = Down (record { disc = s.online.disc; rack = s.rack }) in let b : SystemBelongs d = record { told = is.0; belong = is.1.devices } in b)

module _ (old new : StoreFacts) (c : CrewState) (count : ℕ) (stays : StaysOver old new) (safe : StaysSafe old new) where
  belongs_on : SystemBelongs (Up old) → SystemBelongs (Up new)
  belongs_on is = (stays.told is.0, stays.belongs is.0 is.1)

  -- a whole turn
  pub turn_keeps_run : (number : ℕ) (job behind : JobState) → job_in number c.jobs ≡ Some job → behind.number ≡ job.number → (failure : Option Failure) (system : SystemFacts) (c' : CrewState) (before after : Option (List ℕ)) (faults faults' : ℕ) (turn : Turn)
      → EndsTurn count number new (record c { jobs = with_job behind c.jobs }) (shown job behind) turn failure system c' before after faults faults' → (new.spent ≡ true) ↔ (turn ≡ turns.Broken) → SpendsBy job turn behind
      → IsReady (Up old) c → AreOpen c.jobs → KeepsRun (seen (Up old) c count) failure (seen system c' count) faults faults'
  turn_keeps_run number job behind there numbers failure system c' before after faults faults' turn ends stopped spends ready still =
      subst (λ (s : SystemFacts). KeepsRun (seen (Up old) c count) failure (seen s c' count) faults faults') (sym (system_is number count old new c job behind there numbers failure system c' before after faults faults' turn ends)) (record {
        ready = λ none. (
          ready_is number count old new c job behind there numbers failure system c' before after faults faults' turn ends stopped stays.same.size ready,
          open_is number count old new c job behind there numbers failure system c' before after faults faults' turn ends none spends still,
        );
        disc_arms = ap (λ (d : Devices). d.disc.arms) (same_devices turn new) ∙ stays.disc_arms;
        tape_arms = ap (λ (d : Devices). d.rack.arms) (same_devices turn new) ∙ stays.tape_arms;
        same = subst (λ (d : Devices). SameDevices (devices_in (Up old)) d) (sym (same_devices turn new)) stays.same;
        belongs = λ is. belongs_turned turn new (belongs_on is);
        safe = λ is. safe_turned turn new stopped (safe.up is) (safe.down is);
        dumps = λ is. subst (λ (d : Devices). DumpsGrow old.rack d.rack) (sym (same_devices turn new)) (grow_held old.rack new.rack stays.held);
        cause = (text_is number count old new c job behind there numbers failure system c' before after faults faults' turn ends).cause;
        numbers = λ none. numbers_are number count old new c job behind there numbers failure system c' before after faults faults' turn ends none;
      })

  -- a prefix of one
  pub part_keeps_run : (system : SystemFacts) (c' : CrewState) → LeftBy new system → (faults : ℕ) → KeepsRun (seen (Up old) c count) (Some Memory) (seen system c' count) faults faults
  part_keeps_run system c' left faults = record {
    ready = λ none. absurd (let no : ⊥ = cc in no);
    disc_arms = ap (λ (d : Devices). d.disc.arms) (left_devices new system left) ∙ stays.disc_arms;
    tape_arms = ap (λ (d : Devices). d.rack.arms) (left_devices new system left) ∙ stays.tape_arms;
    same = subst (λ (d : Devices). SameDevices (devices_in (Up old)) d) (sym (left_devices new system left)) stays.same;
    belongs = λ is. belongs_left new system left (belongs_on is);
    safe = λ is. safe_left new system left (safe.up is) (safe.down is);
    dumps = λ is. subst (λ (d : Devices). DumpsGrow old.rack d.rack) (sym (left_devices new system left)) (grow_held old.rack new.rack stays.held);
    cause = refl;
    numbers = λ none. absurd (let no : ⊥ = cc in no);
  }

-- no job took a turn
pub none_keeps_run : (s : StoreFacts) (c : CrewState) (count : ℕ) → IsReady (Up s) c → AreOpen c.jobs → (faults : ℕ) → KeepsRun (seen (Up s) c count) None (seen (Up s) c count) faults faults
none_keeps_run s c count ready still faults = record {
  ready = λ none. (ready, still);
  disc_arms = refl;
  tape_arms = refl;
  same = same_itself (devices_in (Up s));
  belongs = λ is. is;
  safe = λ is. is;
  dumps = λ is. grow_itself s.rack;
  cause = refl;
  numbers = λ none. refl;
}
