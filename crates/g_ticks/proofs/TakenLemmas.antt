-- A TURN'S PART of a tick, from the choice and from how the turn was taken.
-- serves: take_turn (did)
use Rattle.std.proofs.Common.{◌≡◌, ℕ, List, Option, Some, None, refl, sym, subst, inl, inr}
use Rattle.std.specs.Fn.{Shared}
use denote.Ref.{Bor}
use Rattle.g_rules.specs.declared.tariff.Charge.{Charge}
use Rattle.g_rules.specs.declared.tariff.Usage.{Usage}
use Rattle.g_rules.specs.declared.rule.Standing.{Standing}
use Rattle.g_job.specs.Turns.{turn_work}
use Rattle.g_job.proofs.TurnBounds.{turn_honest}
use Rattle.g_store_meaning.specs.StoreInvariant.{StoreFacts}
use Rattle.g_store_model.specs.State as state
use Rattle.g_store_model.specs.State.{State}
use Rattle.g_tape.specs.Rack.{is_mounted, reel}
use Rattle.g_job_table.specs.Choice.{Chooses, able_in}
use Rattle.g_job_table.specs.Crew.{CrewState}
use Rattle.g_job_table.specs.Numbers.{AreJobs, AreOpen}
use Rattle.g_day.specs.declared.progress.Failure.{Failure}
use Rattle.g_day.specs.declared.progress.Failure.TheVariants.{Memory}
use Rattle.g_day.specs.Parts.{IsReady, Seen, seen}
use Rattle.g_day.specs.System.{SystemFacts, Up}
use Rattle.g_ticks.specs.Tick.{DidTurn, some_job_steps}
use Rattle.g_ticks.specs.Turning.{Takes, TookPart, TookTurn}
use Rattle.g_ticks.proofs.FallLemmas.{chosen_steps, none_falls, none_steps, turn_falls}
use Rattle.g_day.proofs.PutLemmas.{puts_grown, same_grown}
use Rattle.g_ticks.proofs.KeptLemmas.{none_keeps_run, part_keeps_run, turn_keeps_run}
use Rattle.g_ticks.proofs.RanLemmas.{dump_stays, mounted_in, mounted_some, part_safe, part_stays, ran_safe, ran_stays, some_state}
use Rattle.g_ticks.proofs.TurningLemmas.{none_goes, part_goes, text_is, turn_goes, unbroken}

-- what the choice says, in every state that has these reels mounted
abbrev pub ChoosesFor : {U : Type 0} → Shared U (Bor Standing × Unit {0}) ℕ → U → StoreFacts → CrewState → Option ℕ → Type 0
ChoosesFor rules rule old c chosen =
    (u : State) → ((serial : ℕ) → state.is_mounted u serial ≡ is_mounted (reel serial old.rack.reels)) → Chooses rules rule c.jobs (able_in u c.jobs) chosen

module _ {F U : Type 0} (tariffs : Shared F (Bor Usage × Unit {0}) Charge) (tariff : F) (rules : Shared U (Bor Standing × Unit {0}) ℕ) (rule : U) (old : StoreFacts) (c : CrewState) (count : ℕ)
    (ready : IsReady (Up old) c) (still : AreOpen c.jobs) (jobs : AreJobs c.jobs c.next_job) where
  abbrev pub before_it : Seen
  before_it = seen (Up old) c count

  -- no job can step
  pub nobody_turns : ChoosesFor rules rule old c None → (before : Option (List ℕ)) (faults : ℕ) → DidTurn tariffs tariff rules rule before_it None before_it before before faults faults
  nobody_turns choice before faults = record {
    goes = none_goes tariffs tariff rules rule old c count 0 ready (λ u here. choice u (mounted_in old ready.0 u here)) before;
    keeps = none_keeps_run old c count ready still faults;
    falls = none_falls (some_job_steps before_it) before_it (none_steps rules rule old c jobs.rise count (choice (some_state old) (mounted_some old)));
    grows = same_grown before before refl;
  }

  -- the chosen job takes a turn, whole
  whole_turns : (number : ℕ) → ChoosesFor rules rule old c (Some number) → (failure : Option Failure) (system : SystemFacts) (c' : CrewState) (before after : Option (List ℕ)) (faults faults' : ℕ)
      → TookTurn tariffs tariff old c count number failure system c' before after faults faults' → DidTurn tariffs tariff rules rule before_it failure (seen system c' count) before after faults faults'
  whole_turns number choice failure system c' before after faults faults' took =
      let takes = took.takes in
      let stays = ran_stays took.job.user (turn_work took.job) takes.told old takes.work took.new takes.ran in record {
        goes = turn_goes tariffs tariff rules rule old c count number ready (λ u here. choice u (mounted_in old ready.0 u here)) took.job took.there failure system c' before after faults faults' took refl;
        keeps = turn_keeps_run old took.new c count stays
            (ran_safe took.job.user (turn_work took.job) (turn_honest took.job) takes.told old takes.work took.new takes.ran) number took.job took.behind took.there takes.spends.0 failure system c' before after faults faults' took.turn took.ends took.stopped takes.spends.2 ready still;
        falls = turn_falls old took.new count number c jobs.rise took.job took.behind took.there (chosen_steps rules rule old c jobs.rise number took.job (choice (some_state old) (mounted_some old)) took.there)
            takes.spends.0 takes.spends.1 stays (some_job_steps before_it) took.turn failure system c' before after faults faults' took.ends takes.spends.2 took.waits
            (λ isnt. dump_stays took.job.user (turn_work took.job) (turn_honest took.job) takes.told old takes.work took.new takes.ran (unbroken took.turn took.new took.stopped isnt));
        grows = puts_grown (text_is number count old took.new c took.job took.behind took.there takes.spends.0 failure system c' before after faults faults' took.turn took.ends);
      }

  -- or a prefix of one
  part_turns : (number : ℕ) → ChoosesFor rules rule old c (Some number) → (failure : Option Failure) (system : SystemFacts) (c' : CrewState) (before after : Option (List ℕ)) (faults faults' : ℕ)
      → TookPart tariffs tariff old c number failure system before after faults faults' → DidTurn tariffs tariff rules rule before_it failure (seen system c' count) before after faults faults'
  part_turns number choice failure system c' before after faults faults' took =
      let stays = part_stays took.job.user (turn_work took.job) old took.new took.ran in
      let memory : Option Failure = Some Memory in
      let made : DidTurn tariffs tariff rules rule before_it memory (seen system c' count) before before faults faults = record {
        goes = part_goes tariffs tariff rules rule old c count number ready (λ u here. choice u (mounted_in old ready.0 u here)) took.job took.there system c' before took.new took.ran took.left;
        keeps = part_keeps_run old took.new c count stays (part_safe took.job.user (turn_work took.job) (turn_honest took.job) old took.new took.ran) system c' took.left faults;
        falls = λ none. absurd (let no : ⊥ = cc in no);
        grows = same_grown before before refl;
      } in
      subst (λ (f : Option Failure). DidTurn tariffs tariff rules rule before_it f (seen system c' count) before after faults faults') (sym took.failed)
      (subst (λ (o : Option (List ℕ)). DidTurn tariffs tariff rules rule before_it memory (seen system c' count) before o faults faults') (sym took.put)
      (subst (λ (n : ℕ). DidTurn tariffs tariff rules rule before_it memory (seen system c' count) before before faults n) (sym took.cause) made))

  pub somebody_turns : (number : ℕ) → ChoosesFor rules rule old c (Some number) → (failure : Option Failure) (system : SystemFacts) (c' : CrewState) (before after : Option (List ℕ)) (faults faults' : ℕ)
      → Takes tariffs tariff old c count number failure system c' before after faults faults' → DidTurn tariffs tariff rules rule before_it failure (seen system c' count) before after faults faults'
  somebody_turns number choice failure system c' before after faults faults' (inl took) = whole_turns number choice failure system c' before after faults faults' took
  somebody_turns number choice failure system c' before after faults faults' (inr took) = part_turns number choice failure system c' before after faults faults' took
