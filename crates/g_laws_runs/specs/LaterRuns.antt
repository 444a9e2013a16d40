-- START after an interruption at any place, also in a later run.
use Rattle.std.specs.Prelude.{◌≡◌, ◌⊎◌, ℕ, List, Option}
use Rattle.std.specs.Fn.{Shared}
use denote.Ref.{Bor}
use Rattle.g_rules.specs.declared.tariff.Charge.{Charge}
use Rattle.g_rules.specs.declared.tariff.Usage.{Usage}
use Rattle.g_rules.specs.declared.rule.Standing.{Standing}
use Rattle.g_script.specs.declared.operator.Timed.{Timed}
use Rattle.g_store_model.specs.CallStep.{down}
use Rattle.g_store_model.specs.State.{State}
use Rattle.g_run_model.specs.Accounts.{tree_of}
use Rattle.g_run_model.specs.Devices.{Devices, StandFor}
use Rattle.g_run_model.specs.Laws.{tree_behind}
use Rattle.g_run_model.specs.Moves.{Move, Step}
use Rattle.g_run_model.specs.World.{World, start}
use Rattle.g_laws_runs.specs.RefusedLines.{RunKeeping}

module _ {F U : Type 0} (tariffs : Shared F (Bor Usage × Unit {0}) Charge) (tariff : F) (rules : Shared U (Bor Standing × Unit {0}) ℕ) (rule : U) where
  -- after any move, even one that was interrupted while the system was down, and lines among which no FORMAT or RESTORE was
  -- done or interrupted, the tree is that before the move or after it
  abbrev pub StartIsBehind : Type 0
  StartIsBehind = (before cut up : World) (move : Move) (moves : List Move) → Step tariffs tariff rules rule before move cut → RunKeeping tariffs tariff rules rule cut moves up
      → (tree_of up.store ≡ tree_of before.store) ⊎ (tree_of up.store ≡ tree_behind before move)

  -- A later run, of any other script, on devices that represent what the store of a run's last world represented: such
  -- lines leave it the tree that this run left. (Devices that belong together represent exactly one state.)
  abbrev pub LaterRunsKeep : Type 0
  LaterRunsKeep = (last up : World) (d : Devices) (s : State) (lines : List Timed) (bad : Option ℕ) (moves : List Move) → StandFor d (down last.store) → StandFor d s
      → RunKeeping tariffs tariff rules rule (start lines bad s) moves up → tree_of up.store ≡ tree_of last.store
