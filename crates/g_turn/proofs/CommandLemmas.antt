-- The programs of commands, of lines and of turns are honest.
-- serves: crates above
use Rattle.std.proofs.Common.{ℕ, Bool, true, false, List, Option, Some, None, Result, Ok, Err, codes}
use Rattle.g_turn.specs.Causes.{GoesOn, IsHonest}
use Rattle.g_turn.specs.Commands.{acted, command, done_if, gone, kept, passes_document}
use Rattle.g_turn.specs.Lines.{behind_echo, does_fired, does_line, does_read, fires, line, long_line, may_fire, says_fired, says_line, takes, to_go_on, too_long}
use Rattle.g_turn.specs.Runs.{goes_on}
use Rattle.g_turn.specs.Outcomes.{in_error, say, with_levels}
use Rattle.g_turn.specs.State.{AgainCommand, AgainLine, Pending, Work}
use Rattle.g_turn.specs.Turns.{begins, fires_unless, goes_on_with, runs_on, runs_or_takes, with_kept}
use Rattle.g_turn.proofs.HonestLemmas.{error_goes, honest_then, if_goes, if_honest, not_over_goes, say_goes}
use Rattle.g_turn.proofs.RunLemmas.{goes_on_goes}
use Rattle.g_turn.proofs.VerbLemmas.{act_honest, end_honest}
use Rattle.g_lang.specs.LineReader.{reading}
use Rattle.g_lang.specs.Lines.{Reading, Said, SaidGoto, SaidIf, SaidVerb, SaidWhenever}
use Rattle.g_lang.specs.Words.{trimmed}
use Rattle.g_lang.specs.declared.line.Cond.{Cond}
use Rattle.g_macro.specs.Levels.{Level, Line, Nothing, Taken, TooLong, current, document_passed, fired, holds, is_full_for, line_of_label, next_line, with_whenever}
use Rattle.g_monitor.specs.JobLines.{marked}
use Rattle.g_monitor.specs.declared.errors.CommandError.TheVariants as errors
use Rattle.g_monitor.specs.declared.job_lines.Mark.TheVariants as mark
use Rattle.g_name.specs.Order.{same_text}
use Rattle.g_plain.specs.Programs.{Gives}
use Rattle.g_verbs.specs.VerbReader.{action_read}
use Rattle.g_verbs.specs.declared.action.Action.{Action}

passes_goes : (name : List ℕ) (w : Work) → GoesOn w.stop → GoesOn (passes_document name w).stop
passes_goes name w goes = if_goes (same_text name (codes "INPUT")) (with_levels (document_passed w.desk.levels) w) w goes goes

gone_goes : (room : ℕ) (place : Option ℕ) (w : Work) → GoesOn w.stop → GoesOn (gone room place w).stop
gone_goes room None w goes = error_goes room errors.NoLabel w goes
gone_goes room (Some place) w goes = goes

kept_goes : (room : ℕ) (cond : Cond) (text : List ℕ) (w : Work) → GoesOn w.stop → GoesOn (kept room cond text w).stop
kept_goes room cond text w goes =
    if_goes (is_full_for cond w.desk.levels) (in_error room errors.WheneversFull w) (with_levels (with_whenever cond text w.desk.levels) w)
    (error_goes room errors.WheneversFull w goes) goes

acted_honest : (room : ℕ) (who : List ℕ) (by : Bool) (name : List ℕ) (asked : Result Action ℕ) (w : Work) → GoesOn w.stop → IsHonest (acted room who by name asked w)
acted_honest room who by name (Ok action) w goes = act_honest room who by action w goes
acted_honest room who by name (Err index) w goes = error_goes room (errors.BadParameter index) (passes_document name w) (passes_goes name w goes)

command_honest : (room : ℕ) (who : List ℕ) (by : Bool) (said : Said) (w : Work) → GoesOn w.stop → IsHonest (command room who by said w)
command_honest room who by (SaidGoto label) w goes = gone_goes room (line_of_label label (current w.desk.levels).lines) w goes
command_honest room who by (SaidIf cond inner) w goes =
    if_honest (holds w.desk.levels cond w.desk.outcome) (command room who by inner w) (Gives w) (command_honest room who by inner w goes) goes
command_honest room who by (SaidWhenever cond text) w goes = kept_goes room cond text w goes
command_honest room who by (SaidVerb name params rest) w goes = acted_honest room who by name (action_read name params rest) w goes

if_said_honest : (room : ℕ) (who : List ℕ) (by : Bool) (said : Option Said) (w : Work) → GoesOn w.stop → IsHonest (done_if room who by said w)
if_said_honest room who by None w goes = goes
if_said_honest room who by (Some said) w goes = command_honest room who by said w goes

module _ (room : ℕ) (who : List ℕ) where
  read_honest : (r : Reading) (w : Work) → GoesOn w.stop → IsHonest (does_read room who r w)
  read_honest (Err place) w goes = goes
  read_honest (Ok said) w goes = if_said_honest room who true said.command w goes

  does_fired_honest : (text : List ℕ) (w : Work) → GoesOn w.stop → IsHonest (does_fired room who text w)
  does_fired_honest text w goes = read_honest (reading text) (to_go_on text w) goes

  fires_honest : (entry : Option (List ℕ × List Level)) (w : Work) → GoesOn w.stop → IsHonest (fires room who entry w)
  fires_honest None w goes = goes
  fires_honest (Some entry) w goes =
      honest_then (Gives (says_fired room entry.0 entry.1 w)) (does_fired room who entry.0)
      (say_goes room (marked mark.Fired entry.0) (with_levels (record w.desk.levels { levels = entry.1 }) w) goes)
      (λ v on. does_fired_honest entry.0 v (not_over_goes v on))

  may_fire_honest : (w : Work) → GoesOn w.stop → IsHonest (may_fire room who w)
  may_fire_honest w goes =
      if_honest w.sets (fires room who (fired w.desk.outcome w.desk.levels.levels) w) (Gives w)
      (fires_honest (fired w.desk.outcome w.desk.levels.levels) w goes) goes

  does_line_honest : (r : Reading) (w : Work) → GoesOn w.stop → IsHonest (does_line room who r w)
  does_line_honest (Err place) w goes = error_goes room (errors.BadLine place) w goes
  does_line_honest (Ok said) w goes = if_said_honest room who false said.command w goes

  behind_honest : (text : List ℕ) (w : Work) → GoesOn w.stop → IsHonest (behind_echo room who text w)
  behind_honest text w goes =
      honest_then (does_line room who (reading text) w) (may_fire room who) (does_line_honest (reading text) w goes)
      (λ v on. may_fire_honest v (not_over_goes v on))

  line_honest : (text : List ℕ) (w : Work) → GoesOn w.stop → IsHonest (line room who text w)
  line_honest text w goes =
      honest_then (Gives (says_line room text w)) (behind_echo room who text)
      (say_goes room (marked mark.Taken (trimmed text)) (record w { again = Some (AgainLine text) }) goes)
      (λ v on. behind_honest text v (not_over_goes v on))

  too_long_honest : (w : Work) → GoesOn w.stop → IsHonest (too_long room who w)
  too_long_honest w goes =
      honest_then (Gives (in_error room (errors.BadLine 240) w)) (may_fire room who) (error_goes room (errors.BadLine 240) w goes)
      (λ v on. may_fire_honest v (not_over_goes v on))

  long_line_honest : (front : List ℕ) (w : Work) → GoesOn w.stop → IsHonest (long_line room who front w)
  long_line_honest front w goes =
      honest_then (Gives (say room (marked mark.Taken front) w)) (too_long room who) (say_goes room (marked mark.Taken front) w goes)
      (λ v on. too_long_honest v (not_over_goes v on))

  takes_honest : (taken : Taken) (w : Work) → GoesOn w.stop → IsHonest (takes room who taken w)
  takes_honest Nothing w goes = end_honest room w goes
  takes_honest (Line text) w goes = line_honest text w goes
  takes_honest (TooLong front) w goes = long_line_honest front w goes

  unless_honest : (by : Bool) (w : Work) → GoesOn w.stop → IsHonest (fires_unless room who by w)
  unless_honest by w goes = if_honest by (Gives w) (may_fire room who w) goes (may_fire_honest w goes)

  runs_on_honest : (by : Bool) (w : Work) → GoesOn w.stop → IsHonest (runs_on room who by w)
  runs_on_honest by w goes =
      honest_then (Gives (goes_on room w)) (fires_unless room who by) (goes_on_goes room w goes) (λ v on. unless_honest by v (not_over_goes v on))

  runs_or_takes_honest : (running : Option Bool) (w : Work) → GoesOn w.stop → IsHonest (runs_or_takes room who running w)
  runs_or_takes_honest (Some by) w goes = runs_on_honest by w goes
  runs_or_takes_honest None w goes = takes_honest (next_line w.desk.levels).0 (with_levels (next_line w.desk.levels).1 w) goes

  goes_on_with_honest : (pending : Pending) (w : Work) → GoesOn w.stop → IsHonest (goes_on_with room who pending w)
  goes_on_with_honest (AgainLine text) w goes = line_honest text w goes
  goes_on_with_honest (AgainCommand text orders blocks command) w goes = does_fired_honest command (with_kept text orders blocks w) goes

  pub begins_honest : (pending : Option Pending) (w : Work) → GoesOn w.stop → IsHonest (begins room who pending w)
  begins_honest None w goes = runs_or_takes_honest w.desk.running w goes
  begins_honest (Some pending) w goes = goes_on_with_honest pending w goes
