-- One command of a line.
use Rattle.std.specs.Prelude.{Bool, Err, List, None, Ok, Option, Result, Some, codes, if◌then◌else◌, ℕ}
use Rattle.g_turn.specs.Actions.{act}
use Rattle.g_turn.specs.Outcomes.{in_error, with_levels}
use Rattle.g_turn.specs.State.{Work}
use Rattle.g_lang.specs.LineReader.{params_read}
use Rattle.g_lang.specs.Lines.{Said, SaidGoto, SaidIf, SaidVerb, SaidWhenever}
use Rattle.g_lang.specs.declared.line.Cond.{Cond}
use Rattle.g_macro.specs.Levels.{current, document_passed, gone_to, holds, is_full_for, line_of_label, with_whenever}
use Rattle.g_monitor.specs.declared.errors.CommandError.TheVariants as errors
use Rattle.g_name.specs.Order.{same_text}
use Rattle.g_plain.specs.Programs.{Asks, Gives}
use Rattle.g_verbs.specs.VerbReader.{action_read}
use Rattle.g_verbs.specs.declared.action.Action.{Action}

-- The lines after an INPUT are passed, even if its parameters are bad.
abbrev pub passes_document : List ℕ → Work → Work
passes_document name w = if same_text name (codes "INPUT") then with_levels (document_passed w.desk.levels) w else w

-- GOTO: the level continues at its first line with the label; without one it is an error.
abbrev pub gone : ℕ → Option ℕ → Work → Work
gone room None w = in_error room errors.NoLabel w
gone room (Some place) w = with_levels (gone_to place w.desk.levels) w

-- WHENEVER: the command is stored in the level and waits.
abbrev pub kept : ℕ → Cond → List ℕ → Work → Work
kept room cond text w =
    if is_full_for cond w.desk.levels then in_error room errors.WheneversFull w
    else with_levels (with_whenever cond text w.desk.levels) w

module _ (room : ℕ) (who : List ℕ) (by : Bool) where
  -- A verb: a bad parameter is reported before any call is made, and before a macro is searched.
  abbrev pub acted : List ℕ → Result Action ℕ → Work → Asks Work
  acted name (Ok action) w = act room who by action w
  acted name (Err index) w = Gives (in_error room (errors.BadParameter index) (passes_document name w))

  -- A verb's line, by its name and the text of its parameters.
  abbrev pub verb_line : List ℕ → List ℕ → Work → Asks Work
  verb_line name rest w = acted name (action_read name (params_read rest) rest) w

  -- ONE COMMAND of the user `who`; `by` says whether a WHENEVER executes it. An IF whose condition doesn't hold has no effect.
  abbrev pub command : Said → Work → Asks Work
  command (SaidGoto label) w = Gives (gone room (line_of_label label (current w.desk.levels).lines) w)
  command (SaidIf cond inner) w = if holds w.desk.levels cond w.desk.outcome then command inner w else Gives w
  command (SaidWhenever cond text) w = Gives (kept room cond text w)
  command (SaidVerb name params rest) w = acted name (action_read name params rest) w

  -- The effect of what a text says; a blank line and a label without a command have none.
  abbrev pub done_if : Option Said → Work → Asks Work
  done_if None w = Gives w
  done_if (Some said) w = command said w
