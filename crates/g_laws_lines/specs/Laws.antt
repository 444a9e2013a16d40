-- No line of a run's text begins with `?`: that mark is the console's own.
use Rattle.std.specs.Prelude.{ℕ, List, Option}
use Rattle.std.specs.Fn.{Shared}
use denote.Ref.{Bor}
use Rattle.g_lines.specs.Documents.{IsWhole}
use Rattle.g_lines.specs.Lines.{lines_of}
use Rattle.g_rules.specs.declared.tariff.Usage.{Usage}
use Rattle.g_rules.specs.declared.tariff.Charge.{Charge}
use Rattle.g_rules.specs.declared.rule.Standing.{Standing}
use Rattle.g_script.specs.Script.{IsParsed}
use Rattle.g_script.specs.declared.operator.Timed.{Timed}
use Rattle.g_store_model.specs.State.{State}
use Rattle.g_run_model.specs.Devices.{Devices, StandFor}
use Rattle.g_run_model.specs.Moves.{Move, Run}
use Rattle.g_run_model.specs.World.{World, start}
use Rattle.g_laws_lines.specs.Lines.{HasLine}

module _ {F U : Type 0} (tariffs : Shared F (Bor Usage × Unit {0}) Charge) (tariff : F) (rules : Shared U (Bor Standing × Unit {0}) ℕ) (rule : U) where
  -- No line that a run prints begins with `?` (63), for any script, on any devices that represent a state.
  abbrev pub NoLineBeginsSo : Type 0
  NoLineBeginsSo = (bytes : List ℕ) (lines : List Timed) (bad : Option ℕ) (d : Devices) (s : State) (moves : List Move) (last : World) → IsParsed (lines_of bytes) lines bad → StandFor d s
      → Run tariffs tariff rules rule (start lines bad s) moves last → HasLine 63 last.text → ⊥

  -- After each move a run has printed whole lines: the last one has its byte 10 too.
  abbrev pub LinesAreWhole : Type 0
  LinesAreWhole = (bytes : List ℕ) (lines : List Timed) (bad : Option ℕ) (d : Devices) (s : State) (moves : List Move) (last : World) → IsParsed (lines_of bytes) lines bad → StandFor d s
      → Run tariffs tariff rules rule (start lines bad s) moves last → IsWhole last.text
