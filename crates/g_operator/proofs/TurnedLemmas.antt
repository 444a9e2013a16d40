-- A REEL'S LINE: it was mounted or unmounted, or it was refused.
-- serves: mount_line (anew, line), unmount_line (anew, line)
use Rattle.std.proofs.Common.{◌≡◌, ℕ, ◌<◌, ◌≤◌, ◌++◌, List, [], Option, refl, sym, ◌∙◌, ap, subst}
use Rattle.std.specs.Prelude.{◌≢◌, Result, Ok, Err, codes}
use Rattle.g_disc.specs.Disc.{DiscState}
use Rattle.g_plain.specs.declared.faults.StoreFault.{StoreFault}
use Rattle.g_plain.specs.declared.faults.StoreFault.TheVariants.{Stopped}
use Rattle.g_monitor.specs.Refusals.{fault_line}
use Rattle.g_store_model.specs.State.{State}
use Rattle.g_store_model.specs.CallStep.{Plain}
use Rattle.g_store_model.specs.DumpSteps.{MountStep, UnmountStep}
use Rattle.g_script.specs.declared.operator.Operator.{Operator}
use Rattle.g_script.specs.declared.operator.Operator.TheVariants as line
use Rattle.g_run_model.specs.Devices.{Devices}
use Rattle.g_run_model.specs.Lines.{LineGives, is_process, line_refused, now_stands, tells}
use Rattle.g_run_model.specs.Moves.{EventCounted}
use Rattle.g_run_model.specs.Texts.{operator_line, tape_text}
use Rattle.g_run_model.specs.World.{World}
use Rattle.g_run_model.proofs.CountLemmas.{happened_same}
use Rattle.g_job_table.specs.Accounts.{AreKept}
use Rattle.g_job_table.specs.Crew.{CrewState}
use Rattle.g_day.specs.declared.progress.Failure.{Failure}
use Rattle.g_day.specs.BeginningAnew.{IsBlank, WentAside, beside_new}
use Rattle.g_day.specs.Parts.{DidLine, DoesLine, IsReady, CountedBy, Matches, Seen, disc_arms, seen, tape_arms}
use Rattle.g_day.specs.Puts.{Puts}
use Rattle.g_operator.specs.Reels.{StaysAsUp, StepsReels}
use Rattle.g_day.specs.System.{Down, StandsAs, SystemFacts, SystemSafe, Up, devices_in}
use Rattle.g_day.specs.Telling.{refusal_text}
use Rattle.g_day.proofs.BesideLemmas.{ready_beside}
use Rattle.g_operator.proofs.AnewLemmas.{same_aside}
use Rattle.g_operator.proofs.DayLemmas.{same_line}
use Rattle.g_day.proofs.LeavesLemmas.{leaves_same}
use Rattle.g_day.proofs.ByLemmas.{grown_by, plain_counted}
use Rattle.g_day.proofs.LossLemmas.{less_line}
use Rattle.g_day.proofs.LineLemmas.{none_armed, was_done}
use Rattle.g_day.proofs.LabelLemmas.{no_fuse, same_counts}
use Rattle.g_day.proofs.PutLemmas.{puts_grown}

-- no count moved
counted_same : (old new : Devices) → new.disc ≡ old.disc → new.rack.read_faults ≡ old.rack.read_faults → new.rack.write_faults ≡ old.rack.write_faults → new.rack.arms ≡ old.rack.arms
    → EventCounted Plain [] [] old new
counted_same old new disc reads writes arms =
    happened_same old new (ap (λ (d : DiscState). d.read_faults) disc) (ap (λ (d : DiscState). d.write_faults) disc) (ap (λ (d : DiscState). d.arms) disc) reads writes arms

-- what is at hand stays ready
ready_still : (old new : SystemFacts) (c : CrewState) → StaysAsUp old new → IsReady old c → IsReady new c
ready_still (Up s) (Up t) c (same, disc) (unspent, low, high) =
    (same ∙ unspent, subst (λ (x : DiscState). 2177 < x.size) (sym disc) low, subst (λ (x : DiscState). x.size ≤ 1048576) (sym disc) high)
ready_still (Up s) (Down d) c same ready = absurd same
ready_still (Down d) (Up s) c same ready = absurd same
ready_still (Down d) (Down e) c same (low, high, jobs, accounts) =
    (subst (λ (x : DiscState). 2177 < x.size) (sym same) low, subst (λ (x : DiscState). x.size ≤ 1048576) (sym same) high, jobs, accounts)

-- a fault that is no stop is a refusal
told_refusal : (done : Unit {0} → State → World → World) (fault : StoreFault) (u : State) (w : World) → fault ≢ Stopped → tells done (Err fault) u w ≡ line_refused fault (record w { store = u })
told_refusal done Stopped u w other = absurd (other refl)
told_refusal done fault u w other = refl

-- the text about a reel
abbrev pub added_by : List ℕ → ℕ → Result (Unit {0}) StoreFault → List ℕ
added_by text count (Ok u) = operator_line count text
added_by text count (Err fault) = refusal_text count fault

module _ (what : Operator) (no_disc : disc_arms what ≡ []) (no_tape : tape_arms what ≡ []) (by : State → Result (Unit {0}) StoreFault → State → Type 0) (text : List ℕ)
    (lifts : (w next : World) (r : Result (Unit {0}) StoreFault) (s : State) → by w.store r s → next ≡ tells (λ x t v. now_stands text t v) r s w → LineGives Plain what w next)
    (old new : SystemFacts) (c : CrewState) (count : ℕ) where
  counted_here : (answer : Result (Unit {0}) StoreFault) → StepsReels by old answer new → CountedBy what Plain (devices_in old) (devices_in new)
  counted_here answer is = plain_counted what no_disc no_tape (devices_in old) (devices_in new) (counted_same (devices_in old) (devices_in new) is.disc is.read_faults is.write_faults is.arms)

  matches_here : (w next : World) → Matches w (seen old c count) → next.jobs ≡ w.jobs → next.accounts ≡ w.accounts → next.next_job ≡ w.next_job → next.count ≡ w.count → StandsAs new next.store
      → Matches next (seen new c count)
  matches_here w next m jobs accounts next_job same stands = record {
    stands = stands;
    crew = record {
      jobs = jobs ∙ m.crew.jobs;
      accounts = subst (λ l. AreKept l c.accounts) (sym accounts) m.crew.accounts;
      next_job = next_job ∙ m.crew.next_job;
    };
    count = same ∙ m.count;
  }

  turned_does : StepsReels by old (Ok tt) new → (w : World) → Matches w (seen old c count) → DoesLine what w old new (operator_line count text)
  turned_does is w m =
      let (u, stands, step) = is.step w.store m.stands in record {
        outcome = Plain;
        next = now_stands text u w;
        gives = lifts w (now_stands text u w) (Ok tt) u step refl;
        counted = counted_here (Ok tt) is;
        stands = stands;
        left = λ safe. less_line what Plain w (now_stands text u w) old new m.stands stands is.left;
        text = ap (λ (n : ℕ). w.text ++ operator_line n text) m.count;
      }

  refused_does : (fault : StoreFault) → StepsReels by old (Err fault) new → (w : World) → Matches w (seen old c count) → DoesLine what w old new (refusal_text count fault)
  refused_does fault is w m =
      let (u, stands, step) = is.step w.store m.stands in record {
        outcome = Plain;
        next = line_refused fault (record w { store = u });
        gives = lifts w (line_refused fault (record w { store = u })) (Err fault) u step (sym (told_refusal (λ x t v. now_stands text t v) fault u w (is.only fault refl)));
        counted = counted_here (Err fault) is;
        stands = stands;
        left = λ safe. less_line what Plain w (line_refused fault (record w { store = u })) old new m.stands stands is.left;
        text = ap (λ (n : ℕ). w.text ++ operator_line n (codes "REFUSED " ++ fault_line fault)) m.count;
      }

  -- A REEL'S LINE
  does_by : (answer : Result (Unit {0}) StoreFault) → StepsReels by old answer new → (w : World) → Matches w (seen old c count) → DoesLine what w old new (added_by text count answer)
  does_by (Ok u) is w m = turned_does is w m
  does_by (Err fault) is w m = refused_does fault is w m

  matches_by : (answer : Result (Unit {0}) StoreFault) (is : StepsReels by old answer new) (w : World) (m : Matches w (seen old c count)) → Matches (does_by answer is w m).next (seen new c count)
  unfolding does_by turned_does refused_does
  matches_by (Ok u) is w m = matches_here w (turned_does is w m).next m refl refl refl refl (turned_does is w m).stands
  matches_by (Err fault) is w m = matches_here w (refused_does fault is w m).next m refl refl refl refl (refused_does fault is w m).stands

  pub reel_line : (answer : Result (Unit {0}) StoreFault) → StepsReels by old answer new → IsReady old c → (failure : Option Failure) (before after : Option (List ℕ)) (faults faults' : ℕ)
      → Puts failure (added_by text count answer) before after faults faults' → DidLine what (seen old c count) failure (seen new c count) before after faults faults'
  reel_line answer is ready failure before after faults faults' puts = record {
    goes = was_done SystemSafe what (seen old c count) (seen new c count) failure (added_by text count answer) before after (does_by answer is) (λ w m e. matches_by answer is w m) puts.put;
    ready = ready_still old new c is.stays ready;
    crew = λ none. leaves_same c;
    arms = none_armed what failure (devices_in old) (devices_in new) no_disc no_tape (ap (λ (d : DiscState). d.arms) is.disc) is.arms;
    count = refl;
    fuses = no_fuse what no_disc no_tape (devices_in new);
    same = same_counts (devices_in old) (devices_in new) (ap (λ (d : DiscState). d.size) is.disc) (ap (λ (d : DiscState). d.read_faults) is.disc) (ap (λ (d : DiscState). d.write_faults) is.disc)
        (ap (λ (d : DiscState). d.writes) is.disc) is.read_faults is.write_faults is.reels;
    belongs = is.belongs;
    safe = is.safe;
    dumps = λ was. grown_by (is_process what) (devices_in old).rack (devices_in new).rack is.dumps;
    cause = puts.cause;
    grows = puts_grown puts;
  }

-- a line that mounts or unmounts a reel: the step of the store, and the text that reports it
pub record Turns (what : Operator) (by : State → Result (Unit {0}) StoreFault → State → Type 0) (text : List ℕ) : Type 0 where
  pub no_disc : disc_arms what ≡ []
  pub no_tape : tape_arms what ≡ []
  pub lifts : (w next : World) (r : Result (Unit {0}) StoreFault) (s : State) → by w.store r s → next ≡ tells (λ x t v. now_stands text t v) r s w → LineGives Plain what w next

pub mounts_line : (serial : ℕ) → Turns (line.Mount serial) (λ s a u. MountStep s serial a u) (tape_text serial (codes "MOUNTED"))
mounts_line serial = record { no_disc = refl; no_tape = refl; lifts = λ w next r s step is. (r, s, (refl, step), is) }

pub unmounts_line : (serial : ℕ) → Turns (line.Unmount serial) (λ s a u. UnmountStep s serial a u) (tape_text serial (codes "UNMOUNTED"))
unmounts_line serial = record { no_disc = refl; no_tape = refl; lifts = λ w next r s step is. (r, s, (refl, step), is) }

-- for the day itself, and with a new disc
module _ {what : Operator} {by : State → Result (Unit {0}) StoreFault → State → Type 0} {text : List ℕ} (turns : Turns what by text) {old : SystemFacts} {c : CrewState} {count : ℕ} {day : Seen}
    (day_is : seen old c count ≡ day) (ready : IsReady day.system day.crew) where
  ready_here : IsReady old c
  ready_here = subst (λ (s : Seen). IsReady s.system s.crew) (sym day_is) ready

  pub day_line : {new : SystemFacts} {told : Result (Unit {0}) StoreFault} {failure : Option Failure} {before after : Option (List ℕ)} {faults faults' : ℕ} (answer : Result (Unit {0}) StoreFault) → told ≡ answer
      → StepsReels by old told new → Puts failure (added_by text count answer) before after faults faults' → DidLine what day failure (seen new c count) before after faults faults'
  day_line {new = new} answer is steps puts =
      same_line day_is refl
      (reel_line what turns.no_disc turns.no_tape by text turns.lifts old new c count answer (subst (λ (a : Result (Unit {0}) StoreFault). StepsReels by old a new) is steps) ready_here _ _ _ _ _ puts)

  pub day_aside : {new : SystemFacts} {told : Result (Unit {0}) StoreFault} {failure : Option Failure} {before after : Option (List ℕ)} {faults faults' : ℕ} (answer : Result (Unit {0}) StoreFault) → told ≡ answer
      → StepsReels by (beside_new old) told (beside_new new) → (IsBlank old → IsBlank new) → Puts failure (added_by text count answer) before after faults faults'
      → WentAside what day failure (seen new c count) before after faults faults'
  day_aside {new = new} answer is steps blank puts = same_aside day_is (record {
    line = reel_line what turns.no_disc turns.no_tape by text turns.lifts (beside_new old) (beside_new new) c count answer
        (subst (λ (a : Result (Unit {0}) StoreFault). StepsReels by (beside_new old) a (beside_new new)) is steps) (ready_beside old c ready_here) _ _ _ _ _ puts;
    blank = blank;
  })
