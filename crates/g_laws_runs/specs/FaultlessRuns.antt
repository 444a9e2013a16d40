-- If no fault counter rose no device failed. Then the text of a run follows from its script, the state that its devices
-- represented, and the charges.
use Rattle.std.specs.Prelude.{◌≡◌, ℕ, true, List, All, Option}
use Rattle.std.specs.Fn.{Shared}
use denote.Ref.{Bor}
use Rattle.g_base.specs.Counts.{Rose}
use Rattle.g_rules.specs.declared.tariff.Charge.{Charge}
use Rattle.g_rules.specs.declared.tariff.Usage.{Usage}
use Rattle.g_rules.specs.Rule.{IsWeighRule}
use Rattle.g_rules.specs.declared.rule.Standing.{Standing}
use Rattle.g_script.specs.declared.operator.Timed.{Timed}
use Rattle.g_store_model.specs.State.{State}
use Rattle.g_run_model.specs.Devices.{Devices, StandFor}
use Rattle.g_run_model.specs.Laws.{AreTimed, IsPlain, charges_of}
use Rattle.g_run_model.specs.Moves.{Counted, Move}
use Rattle.g_run_model.specs.Top.{RunOf}
use Rattle.g_run_model.specs.World.{World}

-- No device counted a failure.
pub record NothingRose (old new : Devices) : Type 0 where
  pub disc_reads : Rose old.disc.read_faults new.disc.read_faults → ⊥
  pub disc_writes : Rose old.disc.write_faults new.disc.write_faults → ⊥
  pub tape_reads : Rose old.rack.read_faults new.rack.read_faults → ⊥
  pub tape_writes : Rose old.rack.write_faults new.rack.write_faults → ⊥

-- In no move of the run did a device fail.
abbrev pub UnrisenIsPlain : Type 0
UnrisenIsPlain = (moves : List Move) (last : World) (old new : Devices) → Counted moves last old new → NothingRose old new → All IsPlain moves

module _ {F U : Type 0} (tariffs : Shared F (Bor Usage × Unit {0}) Charge) (tariff : F) (rules : Shared U (Bor Standing × Unit {0}) ℕ) (rule : U) where
  -- two runs on devices that represent the same state, with the same charges, have the same text
  abbrev pub UnrisenTextIsOne : Type 0
  UnrisenTextIsOne = (lines : List Timed) (bad : Option ℕ) (s : State) (old new new' : Devices) (moves others : List Move) (last other : World)
      → IsWeighRule rules rule → AreTimed lines → StandFor old s
      → RunOf tariffs tariff rules rule lines bad s old new moves last → RunOf tariffs tariff rules rule lines bad s old new' others other
      → NothingRose old new → NothingRose old new' → last.over ≡ true → other.over ≡ true → charges_of moves ≡ charges_of others → last.text ≡ other.text
