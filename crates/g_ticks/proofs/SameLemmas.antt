-- What is at hand then, in another formulation.
-- serves: dump_step (did), step (did), take_turn (did), tick (did), TickedLemmas, UntilLemmas
use Rattle.std.proofs.Common.{◌≡◌, ◌+◌, ◌≤◌, ℕ, List, Option, None, sym, subst}
use Rattle.std.specs.Fn.{Shared}
use denote.Ref.{Bor}
use Rattle.g_rules.specs.declared.tariff.Charge.{Charge}
use Rattle.g_rules.specs.declared.tariff.Usage.{Usage}
use Rattle.g_rules.specs.declared.rule.Standing.{Standing}
use Rattle.g_day.specs.declared.progress.Failure.{Failure}
use Rattle.g_day.specs.Parts.{Seen}
use Rattle.g_ticks.specs.Parts.{Anything, DidTicks}
use Rattle.g_ticks.specs.Tick.{DidDump, DidTurn, left}

pub same_dump : {old new new' : Seen} {failure : Option Failure} {before after : Option (List ℕ)} {faults faults' : ℕ} → new' ≡ new → DidDump old failure new before after faults faults'
    → DidDump old failure new' before after faults faults'
same_dump {old = old} {failure = failure} {before = before} {after = after} {faults = faults} {faults' = faults'} is did =
    subst (λ (s : Seen). DidDump old failure s before after faults faults') (sym is) did

module _ {F U : Type 0} (tariffs : Shared F (Bor Usage × Unit {0}) Charge) (tariff : F) (rules : Shared U (Bor Standing × Unit {0}) ℕ) (rule : U) where
  pub same_turn : {old new new' : Seen} {failure : Option Failure} (before after : Option (List ℕ)) {faults faults' : ℕ} → new' ≡ new → DidTurn tariffs tariff rules rule old failure new before after faults faults'
      → DidTurn tariffs tariff rules rule old failure new' before after faults faults'
  same_turn {old = old} {failure = failure} before after {faults = faults} {faults' = faults'} is did =
      subst (λ (s : Seen). DidTurn tariffs tariff rules rule old failure s before after faults faults') (sym is) did

  -- ONE TICK: the count is one more, and less is left to do
  pub record DidOne (limit : Option ℕ) (old : Seen) (failure : Option Failure) (new : Seen) (before after : Option (List ℕ)) (faults faults' : ℕ) : Type 0 where
    pub did : DidTicks tariffs tariff rules rule Anything limit old failure new before after faults faults'
    pub counts : failure ≡ None → new.count ≡ old.count + 1
    pub falls : failure ≡ None → left new + 1 ≤ left old
