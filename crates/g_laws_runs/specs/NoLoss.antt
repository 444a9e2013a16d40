-- Nothing is lost: in no run on devices that belong together does a RESTORE name a lost directory or copy.
use Rattle.std.specs.Prelude.{ℕ, List, Option, Result}
use Rattle.std.specs.Fn.{Shared}
use denote.Ref.{Bor}
use Rattle.g_rules.specs.declared.tariff.Charge.{Charge}
use Rattle.g_rules.specs.declared.tariff.Usage.{Usage}
use Rattle.g_rules.specs.declared.rule.Standing.{Standing}
use Rattle.g_script.specs.declared.operator.Timed.{Timed}
use Rattle.g_plain.specs.declared.faults.StoreFault.{StoreFault}
use Rattle.g_store_model.specs.CallStep.{Outcome}
use Rattle.g_store_model.specs.Rising.{IsLost, RestoreStep}
use Rattle.g_store_model.specs.State.{State}
use Rattle.g_run_model.specs.Devices.{Devices, StandFor}
use Rattle.g_run_model.specs.Moves.{Move, Run}
use Rattle.g_run_model.specs.World.{World, start}

module _ {F U : Type 0} (tariffs : Shared F (Bor Usage × Unit {0}) Charge) (tariff : F) (rules : Shared U (Bor Standing × Unit {0}) ℕ) (rule : U) where
  -- In no world of a run on devices that represent a state can a RESTORE name a lost directory or copy.
  abbrev pub NothingIsLost : Type 0
  NothingIsLost = (d : Devices) (lines : List Timed) (bad : Option ℕ) (s : State) (moves : List Move) (w : World) → StandFor d s → Run tariffs tariff rules rule (start lines bad s) moves w
      → (o : Outcome) (answer : Result ℕ StoreFault) (new : State) → RestoreStep w.store o answer new → IsLost answer → ⊥
