-- A run that isn't over continues.
use Rattle.std.specs.Prelude.{◌≡◌, ℕ, false, List, Option, None}
use Rattle.std.specs.Fn.{FnReturnsAt, Shared}
use denote.Ref.{Bor}
use Rattle.g_rules.specs.declared.tariff.Charge.{Charge}
use Rattle.g_rules.specs.declared.tariff.Usage.{Usage}
use Rattle.g_rules.specs.declared.rule.Standing.{Standing}
use Rattle.g_script.specs.declared.operator.Timed.{Timed}
use Rattle.g_store_model.specs.State.{State}
use Rattle.g_run_model.specs.Moves.{Move, Run, Step}
use Rattle.g_run_model.specs.World.{World, start}

module _ {F U : Type 0} (tariffs : Shared F (Bor Usage × Unit {0}) Charge) (tariff : F) (rules : Shared U (Bor Standing × Unit {0}) ℕ) (rule : U) where
  -- every usage is charged, and every standing weighed
  pub record AreAnswered : Type 0 where
    pub charges : (usage : Usage) → (charge : Charge) × FnReturnsAt tariffs tariff usage charge
    pub weights : (standing : Standing) → (weight : ℕ) × FnReturnsAt rules rule standing weight

  -- from every world of a run on a store that was down there is a next one, until the run is over
  abbrev pub RunsGoOn : Type 0
  RunsGoOn = AreAnswered → (lines : List Timed) (bad : Option ℕ) (s : State) (moves : List Move) (w : World) → s.up ≡ false → s.open_dump ≡ None
      → Run tariffs tariff rules rule (start lines bad s) moves w → w.over ≡ false
      → (move : Move) × (new : World) × Step tariffs tariff rules rule w move new
