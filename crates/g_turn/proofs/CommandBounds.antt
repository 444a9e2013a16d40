-- The programs of commands, lines and turns stay within the limits.
-- serves: crates above
use Rattle.std.proofs.Common.{ℕ, ◌+◌, ◌≤◌, Bool, true, false, List, Option, Some, None, Result, Ok, Err, codes, refl, le_refl, lit≤, arith}
use Rattle.g_turn.specs.Bounds.{AlwaysGives}
use Rattle.g_turn.specs.Commands.{acted, command, done_if, gone, kept, passes_document}
use Rattle.g_turn.specs.Lines.{behind_echo, does_fired, does_line, does_read, fires, line, long_line, may_fire, says_fired, says_line, takes, to_go_on, too_long}
use Rattle.g_turn.specs.Runs.{goes_on}
use Rattle.g_turn.specs.Outcomes.{in_error, say, with_levels}
use Rattle.g_turn.specs.State.{AgainCommand, AgainLine, Work}
use Rattle.g_turn.specs.Turns.{fires_unless, runs_on, runs_or_takes}
use Rattle.g_turn.proofs.BoundLemmas.{There, error_good, gives_more, good_more, if_gives, if_good, more_some, say_good, say_there, then_gives}
use Rattle.g_turn.proofs.RunBounds.{goes_on_good}
use Rattle.g_turn.proofs.VerbBounds.{In, act_gives, end_gives}
use Rattle.g_lang.specs.LineReader.{reading}
use Rattle.g_lang.specs.Lines.{Reading, Said, SaidGoto, SaidIf, SaidVerb, SaidWhenever}
use Rattle.g_lang.specs.Words.{trimmed}
use Rattle.g_lang.specs.declared.line.Cond.{Cond}
use Rattle.g_macro.specs.Levels.{Level, Line, Nothing, Taken, TooLong, current, document_passed, fired, holds, is_full_for, line_of_label, next_line, with_whenever}
use Rattle.g_monitor.specs.JobLines.{marked}
use Rattle.g_monitor.specs.declared.errors.CommandError.TheVariants as errors
use Rattle.g_monitor.specs.declared.job_lines.Mark.TheVariants as mark
use Rattle.g_name.specs.Order.{same_text}
use Rattle.g_plain.specs.Programs.{Gives}
use Rattle.g_verbs.specs.VerbReader.{action_read}
use Rattle.g_verbs.specs.declared.action.Action.{Action}

module _ (room : ℕ) (who : List ℕ) where
  -- a smaller limit implies a larger one
  more : (most most' : ℕ) (w : Work) → most ≤ most' → In room most w → In room most' w
  more most most' w less g = good_more room 64 64 most most' w (le_refl 64) less g

  gone_good : (most : ℕ) (place : Option ℕ) (w : Work) → In room most w → In room most (gone room place w)
  gone_good most None w g = error_good room 64 most errors.NoLabel w g
  gone_good most (Some place) w g = g

  kept_good : (most : ℕ) (cond : Cond) (text : List ℕ) (w : Work) → In room most w → In room most (kept room cond text w)
  kept_good most cond text w g =
      if_good room 64 most (is_full_for cond w.desk.levels) (in_error room errors.WheneversFull w) (with_levels (with_whenever cond text w.desk.levels) w)
      (error_good room 64 most errors.WheneversFull w g) g

  acted_gives : (by : Bool) (most : ℕ) (name : List ℕ) (asked : Result Action ℕ) (w : Work) → There w → In room most w → AlwaysGives (In room (most + 2048)) (acted room who by name asked w)
  acted_gives by most name (Ok action) w there g = act_gives room who by most action w there g
  acted_gives by most name (Err index) w there g =
      error_good room 64 (most + 2048) (errors.BadParameter index) (passes_document name w)
      (if_good room 64 (most + 2048) (same_text name (codes "INPUT")) (with_levels (document_passed w.desk.levels) w) w
      (more most (most + 2048) w (omega arith) g) (more most (most + 2048) w (omega arith) g))

  command_gives : (by : Bool) (most : ℕ) (said : Said) (w : Work) → There w → In room most w → AlwaysGives (In room (most + 2048)) (command room who by said w)
  command_gives by most (SaidGoto label) w there g =
      gone_good (most + 2048) (line_of_label label (current w.desk.levels).lines) w (more most (most + 2048) w (omega arith) g)
  command_gives by most (SaidIf cond inner) w there g =
      if_gives (In room (most + 2048)) (holds w.desk.levels cond w.desk.outcome) (command room who by inner w) (Gives w) (command_gives by most inner w there g)
      (more most (most + 2048) w (omega arith) g)
  command_gives by most (SaidWhenever cond text) w there g = kept_good (most + 2048) cond text w (more most (most + 2048) w (omega arith) g)
  command_gives by most (SaidVerb name params rest) w there g = acted_gives by most name (action_read name params rest) w there g

  if_said_gives : (by : Bool) (most : ℕ) (said : Option Said) (w : Work) → There w → In room most w → AlwaysGives (In room (most + 2048)) (done_if room who by said w)
  if_said_gives by most None w there g = more most (most + 2048) w (omega arith) g
  if_said_gives by most (Some said) w there g = command_gives by most said w there g

  -- the WHENEVER: what was stored of the line before it is within the limits of a line
  read_gives : (r : Reading) (w : Work) → There w → In room 2048 w → AlwaysGives (In room 4096) (does_read room who r w)
  read_gives (Err place) w there g = more 2048 4096 w (lit≤ tt) g
  read_gives (Ok said) w there g = if_said_gives true 2048 said.command w there g

  pub does_fired_gives : (text : List ℕ) (w : Work) → In room 2048 w → AlwaysGives (In room 4096) (does_fired room who text w)
  does_fired_gives text w g =
      read_gives (reading text) (to_go_on text w) refl
      (g.0, g.1, g.2, g.3, (g.0, g.1, g.2), more_some w.stop (AgainCommand w.text w.orders w.blocks text))

  fires_gives : (entry : Option (List ℕ × List Level)) (w : Work) → In room 2048 w → AlwaysGives (In room 4096) (fires room who entry w)
  fires_gives None w g = more 2048 4096 w (lit≤ tt) g
  fires_gives (Some entry) w g =
      then_gives (In room 2048) (In room 4096) (Gives (says_fired room entry.0 entry.1 w)) (does_fired room who entry.0)
      (say_good room 64 2048 (marked mark.Fired entry.0) (with_levels (record w.desk.levels { levels = entry.1 }) w) g)
      (λ v h over. more 2048 4096 v (lit≤ tt) h) (λ v h on. does_fired_gives entry.0 v h)

  may_fire_gives : (w : Work) → In room 2048 w → AlwaysGives (In room 4096) (may_fire room who w)
  may_fire_gives w g =
      if_gives (In room 4096) w.sets (fires room who (fired w.desk.outcome w.desk.levels.levels) w) (Gives w)
      (fires_gives (fired w.desk.outcome w.desk.levels.levels) w g) (more 2048 4096 w (lit≤ tt) g)

  -- a line
  does_line_gives : (r : Reading) (w : Work) → There w → In room 0 w → AlwaysGives (In room 2048) (does_line room who r w)
  does_line_gives (Err place) w there g = error_good room 64 2048 (errors.BadLine place) w (more 0 2048 w (lit≤ tt) g)
  does_line_gives (Ok said) w there g = if_said_gives false 0 said.command w there g

  behind_gives : (text : List ℕ) (w : Work) → There w → In room 0 w → AlwaysGives (In room 4096) (behind_echo room who text w)
  behind_gives text w there g =
      then_gives (In room 2048) (In room 4096) (does_line room who (reading text) w) (may_fire room who) (does_line_gives (reading text) w there g)
      (λ v h over. more 2048 4096 v (lit≤ tt) h) (λ v h on. may_fire_gives v h)

  -- a work with something to resume with
  abbrev pub Held : ℕ → Work → Type 0
  Held most w = There w × In room most w

  pub line_gives : (text : List ℕ) (w : Work) → In room 0 w → AlwaysGives (In room 4096) (line room who text w)
  line_gives text w g =
      let kept : Work = record w { again = Some (AgainLine text) } in
      let good : In room 0 kept = (g.0, g.1, g.2, g.3, tt, more_some w.stop (AgainLine text)) in
      then_gives (Held 0) (In room 4096) (Gives (says_line room text w)) (behind_echo room who text)
      (say_there room (marked mark.Taken (trimmed text)) kept refl, say_good room 64 0 (marked mark.Taken (trimmed text)) kept good)
      (λ v h over. more 0 4096 v (lit≤ tt) h.1) (λ v h on. behind_gives text v h.0 h.1)

  too_long_gives : (w : Work) → In room 0 w → AlwaysGives (In room 4096) (too_long room who w)
  too_long_gives w g =
      then_gives (In room 2048) (In room 4096) (Gives (in_error room (errors.BadLine 240) w)) (may_fire room who)
      (error_good room 64 2048 (errors.BadLine 240) w (more 0 2048 w (lit≤ tt) g)) (λ v h over. more 2048 4096 v (lit≤ tt) h) (λ v h on. may_fire_gives v h)

  long_line_gives : (front : List ℕ) (w : Work) → In room 0 w → AlwaysGives (In room 4096) (long_line room who front w)
  long_line_gives front w g =
      then_gives (In room 0) (In room 4096) (Gives (say room (marked mark.Taken front) w)) (too_long room who) (say_good room 64 0 (marked mark.Taken front) w g)
      (λ v h over. more 0 4096 v (lit≤ tt) h) (λ v h on. too_long_gives v h)

  takes_gives : (taken : Taken) (w : Work) → In room 0 w → AlwaysGives (In room 4096) (takes room who taken w)
  takes_gives Nothing w g = gives_more (In room 2048) (In room 4096) (λ v h. more 2048 4096 v (lit≤ tt) h) (takes room who Nothing w) (end_gives room 0 w g)
  takes_gives (Line text) w g = line_gives text w g
  takes_gives (TooLong front) w g = long_line_gives front w g

  -- a run that continues
  unless_gives : (by : Bool) (w : Work) → In room 0 w → AlwaysGives (In room 4096) (fires_unless room who by w)
  unless_gives by w g = if_gives (In room 4096) by (Gives w) (may_fire room who w) (more 0 4096 w (lit≤ tt) g) (may_fire_gives w (more 0 2048 w (lit≤ tt) g))

  runs_on_gives : (by : Bool) (w : Work) → In room 0 w → AlwaysGives (In room 4096) (runs_on room who by w)
  runs_on_gives by w g =
      then_gives (In room 0) (In room 4096) (Gives (goes_on room w)) (fires_unless room who by) (goes_on_good room 0 w g) (λ v h over. more 0 4096 v (lit≤ tt) h)
      (λ v h on. unless_gives by v h)

  pub runs_or_takes_gives : (running : Option Bool) (w : Work) → In room 0 w → AlwaysGives (In room 4096) (runs_or_takes room who running w)
  runs_or_takes_gives (Some by) w g = runs_on_gives by w g
  runs_or_takes_gives None w g = takes_gives (next_line w.desk.levels).0 (with_levels (next_line w.desk.levels).1 w) g
