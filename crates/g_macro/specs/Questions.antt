-- The tests of conditions.
use Rattle.std.specs.Prelude.{Bool, List, false, if◌then◌else◌, not, true, ℕ}
use Rattle.g_lang.specs.declared.line.Cond.{Cond}
use Rattle.g_lang.specs.declared.line.Test.{Test}
use Rattle.g_lang.specs.declared.line.Test.TheVariants.{Absent, CommandError, Deleted, Equals, Failed, Halted, Present}
use Rattle.g_macro.specs.Expansion.{param_of}
use Rattle.g_macro.specs.declared.outcome.EventNote.{EventNote}
use Rattle.g_macro.specs.declared.outcome.Outcome.{Outcome}
use Rattle.g_name.specs.Order.{same_text}
use Rattle.g_name.specs.Words.{is_empty}
use Rattle.g_macro.specs.declared.outcome.EventNote.TheVariants as note

-- The program halted with this text.
abbrev pub has_halted : EventNote → List ℕ → Bool
has_halted (note.Halted text) other = same_text text other
has_halted event other = false

-- The program was deleted with this text.
abbrev pub has_deleted : EventNote → List ℕ → Bool
has_deleted (note.Deleted text) other = same_text text other
has_deleted event other = false

-- The program reached an illegal order.
abbrev pub has_failed : EventNote → Bool
has_failed note.Failed = true
has_failed event = false

-- The test holds, by the parameters of a level and the outcome of the last command.
abbrev pub test_holds : List (List ℕ) → Outcome → Test → Bool
test_holds params outcome CommandError = outcome.error
test_holds params outcome Failed = has_failed outcome.event
test_holds params outcome (Halted text) = has_halted outcome.event text
test_holds params outcome (Deleted text) = has_deleted outcome.event text
test_holds params outcome (Present letter) = not (is_empty (param_of params letter))
test_holds params outcome (Absent letter) = is_empty (param_of params letter)
test_holds params outcome (Equals letter text) = same_text (param_of params letter) text

-- The condition holds, by the parameters of a level and the outcome of the last command.
abbrev pub cond_holds : List (List ℕ) → Outcome → Cond → Bool
cond_holds params outcome cond = if cond.negated then not (test_holds params outcome cond.test) else test_holds params outcome cond.test
