-- THE LAW: no line of a run's text begins with `?`.
-- serves: lines_of_a_run_are_whole, no_line_of_a_run_begins_so, SessionTextLemmas
use Rattle.std.proofs.Common.{ℕ, List, Option}
use Rattle.std.specs.Fn.{Shared}
use denote.Ref.{Bor}
use Rattle.g_rules.specs.declared.tariff.Charge.{Charge}
use Rattle.g_rules.specs.declared.tariff.Usage.{Usage}
use Rattle.g_rules.specs.declared.rule.Standing.{Standing}
use Rattle.g_lines.specs.Lines.{lines_of}
use Rattle.g_run_model.specs.Devices.{Devices, StandFor}
use Rattle.g_run_model.specs.Moves.{Move, Run}
use Rattle.g_run_model.specs.World.{World, start}
use Rattle.g_script.specs.Script.{IsParsed}
use Rattle.g_script.specs.declared.operator.Timed.{Timed}
use Rattle.g_store_model.specs.State.{State}
use Rattle.g_run_model.proofs.DeviceDumpLemmas.{devices_dumped}
use Rattle.g_laws_lines.proofs.DeviceLemmas.{devices_named}
use Rattle.g_laws_lines.proofs.ScriptLemmas.{parsed_fine}
use Rattle.g_laws_lines.proofs.TextLemmas.{IsMade, made_has_none, made_none, made_whole}
use Rattle.g_laws_lines.proofs.WorldLemmas.{IsFineWorld, run_fine}
use Rattle.g_laws_lines.specs.Laws.{LinesAreWhole, NoLineBeginsSo}

module _ {F U : Type 0} (tariffs : Shared F (Bor Usage × Unit {0}) Charge) (tariff : F) (rules : Shared U (Bor Standing × Unit {0}) ℕ) (rule : U) where
  pub made : (bytes : List ℕ) (lines : List Timed) (bad : Option ℕ) (d : Devices) (s : State) (moves : List Move) (last : World) → IsParsed (lines_of bytes) lines bad → StandFor d s
      → Run tariffs tariff rules rule (start lines bad s) moves last → IsMade last.text
  made bytes lines bad d s moves last parsed stand run =
      let begins : IsFineWorld (start lines bad s) = (parsed_fine 1 (lines_of bytes) lines bad parsed, devices_named d s stand, devices_dumped d s stand, tt, tt, made_none) in
      (run_fine tariffs tariff rules rule moves (start lines bad s) last begins run).5

  pub no_line_begins_so : NoLineBeginsSo tariffs tariff rules rule
  no_line_begins_so bytes lines bad d s moves last parsed stand run has = made_has_none last.text (made bytes lines bad d s moves last parsed stand run) has

  pub lines_are_whole : LinesAreWhole tariffs tariff rules rule
  lines_are_whole bytes lines bad d s moves last parsed stand run = made_whole last.text (made bytes lines bad d s moves last parsed stand run)
