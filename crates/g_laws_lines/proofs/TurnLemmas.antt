-- The program of a turn prints only lines that a run may print.
-- serves: WorldLemmas
use Rattle.std.proofs.Common.{◌≡◌, ℕ, Bool, true, false, List, Option, Some, None, IfSome, Ok, Err}
use Rattle.g_turn.specs.Lines.{behind_echo, does_fired, does_line, does_read, fires, line, long_line, may_fire, says_fired, says_line, takes, to_go_on, too_long}
use Rattle.g_turn.specs.Outcomes.{in_error, say, with_levels}
use Rattle.g_turn.specs.State.{AgainCommand, AgainLine, Pending, Work}
use Rattle.g_turn.specs.Turns.{begins, fires_unless, runs_or_takes, with_kept}
use Rattle.g_turn.specs.Runs.{goes_on}
use Rattle.g_lang.specs.LineReader.{reading}
use Rattle.g_lang.specs.Lines.{Reading}
use Rattle.g_lang.specs.Words.{trimmed}
use Rattle.g_macro.specs.Levels.{Level, Line, Nothing, Taken, TooLong, fired, next_line}
use Rattle.g_monitor.specs.JobLines.{marked}
use Rattle.g_monitor.specs.declared.errors.CommandError.TheVariants as errors
use Rattle.g_monitor.specs.declared.job_lines.Mark.TheVariants as mark
use Rattle.g_plain.specs.Programs.{Gives}
use Rattle.g_laws_lines.proofs.LevelLemmas.{IsFineFired, IsFineTaken, fired_fine, next_fine, trimmed_line}
use Rattle.g_laws_lines.proofs.PrintLemmas.{marked_may}
use Rattle.g_laws_lines.proofs.SaidLemmas.{IsFineReading, reading_fine}
use Rattle.g_laws_lines.proofs.TextLemmas.{is_line}
use Rattle.g_laws_lines.proofs.WorkLemmas.{AlwaysFine, IsFine, IsFinePending, either_fine, end_fine, error_fine, goes_on_fine, said_fine, say_fine, then_fine}

module _ (room : ℕ) (who : List ℕ) (whose : is_line who ≡ true) where
  -- THE WHENEVER that fires
  read_fine : (r : Reading) (w : Work) → IsFineReading r → IsFine w → AlwaysFine (does_read room who r w)
  read_fine (Err place) w s h = h
  read_fine (Ok said) w s h = said_fine room who whose true said.command w s h

  does_fired_fine : (text : List ℕ) (w : Work) → is_line text ≡ true → IsFine w → AlwaysFine (does_fired room who text w)
  does_fired_fine text w is h = read_fine (reading text) (to_go_on text w) (reading_fine text is) (h.0, h.1, (h.3, is), h.3)

  fires_fine : (entry : Option (List ℕ × List Level)) (w : Work) → IfSome entry IsFineFired → IsFine w → AlwaysFine (fires room who entry w)
  fires_fine None w f h = h
  fires_fine (Some entry) w f h =
      then_fine (Gives (says_fired room entry.0 entry.1 w)) (does_fired room who entry.0)
      (say_fine room (marked mark.Fired entry.0) (with_levels (record w.desk.levels { levels = entry.1 }) w) (marked_may mark.Fired entry.0 f.0) (f.1, h.1, h.2, h.3))
      (λ v hv. does_fired_fine entry.0 v f.0 hv)

  may_fire_fine : (w : Work) → IsFine w → AlwaysFine (may_fire room who w)
  may_fire_fine w h =
      either_fine w.sets (fires room who (fired w.desk.outcome w.desk.levels.levels) w) (Gives w)
      (fires_fine (fired w.desk.outcome w.desk.levels.levels) w (fired_fine w.desk.outcome w.desk.levels.levels h.0) h) h

  -- A LINE
  does_fine : (r : Reading) (w : Work) → IsFineReading r → IsFine w → AlwaysFine (does_line room who r w)
  does_fine (Err place) w s h = error_fine room (errors.BadLine place) w h
  does_fine (Ok said) w s h = said_fine room who whose false said.command w s h

  line_fine : (text : List ℕ) (w : Work) → is_line text ≡ true → IsFine w → AlwaysFine (line room who text w)
  line_fine text w is h =
      then_fine (Gives (says_line room text w)) (behind_echo room who text)
      (say_fine room (marked mark.Taken (trimmed text)) (record w { again = Some (AgainLine text) }) (marked_may mark.Taken (trimmed text) (trimmed_line text is)) (h.0, h.1, is, h.3))
      (λ v hv. then_fine (does_line room who (reading text) v) (may_fire room who) (does_fine (reading text) v (reading_fine text is) hv) (λ u hu. may_fire_fine u hu))

  long_fine : (front : List ℕ) (w : Work) → is_line front ≡ true → IsFine w → AlwaysFine (long_line room who front w)
  long_fine front w is h =
      then_fine (Gives (say room (marked mark.Taken front) w)) (too_long room who) (say_fine room (marked mark.Taken front) w (marked_may mark.Taken front is) h)
      (λ v hv. then_fine (Gives (in_error room (errors.BadLine 240) v)) (may_fire room who) (error_fine room (errors.BadLine 240) v hv) (λ u hu. may_fire_fine u hu))

  takes_fine : (taken : Taken) (w : Work) → IsFineTaken taken → IsFine w → AlwaysFine (takes room who taken w)
  takes_fine Nothing w t h = end_fine room w h
  takes_fine (Line text) w t h = line_fine text w t h
  takes_fine (TooLong front) w t h = long_fine front w t h

  -- A TURN
  unless_fine : (by : Bool) (w : Work) → IsFine w → AlwaysFine (fires_unless room who by w)
  unless_fine by w h = either_fine by (Gives w) (may_fire room who w) h (may_fire_fine w h)

  runs_fine : (o : Option Bool) (w : Work) → IsFine w → AlwaysFine (runs_or_takes room who o w)
  runs_fine (Some by) w h = then_fine (Gives (goes_on room w)) (fires_unless room who by) (goes_on_fine room w h) (λ v hv. unless_fine by v hv)
  runs_fine None w h =
      let next = next_fine w.desk.levels h.0 in
      takes_fine (next_line w.desk.levels).0 (with_levels (next_line w.desk.levels).1 w) next.0 (next.1, h.1, h.2, h.3)

  pub begins_fine : (pending : Option Pending) (w : Work) → IfSome pending IsFinePending → IsFine w → AlwaysFine (begins room who pending w)
  begins_fine None w p h = runs_fine w.desk.running w h
  begins_fine (Some (AgainLine text)) w p h = line_fine text w p h
  begins_fine (Some (AgainCommand text orders blocks command)) w p h = does_fired_fine command (with_kept text orders blocks w) p.1 (h.0, h.1, h.2, p.0)
