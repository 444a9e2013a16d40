-- The results of the calls on the levels.
use Rattle.std.specs.Prelude.{Err, List, None, Ok, Option, Result, Some, false, true, ℕ, ⊤, ◌≡◌, ◌≢◌}
use Rattle.g_lang.specs.declared.line.Cond.{Cond}
use Rattle.g_macro.specs.Holding.{with_typed}
use Rattle.g_macro.specs.Levels.{Line, Nothing, Stack, TooLong, begun, called, current, document_of, document_passed, fired, gone_to, is_deepest, is_full_for, line_of_label, next_line, with_whenever}
use Rattle.g_macro.specs.declared.fault.MacroFault.{MacroFault}
use Rattle.g_macro.specs.declared.outcome.Outcome.{Outcome}
use Rattle.g_macro.specs.declared.fault.MacroFault.TheVariants as fault

-- The result of creating the levels of a job.
abbrev pub IsNew : List (List ℕ) → Result Stack MacroFault → Type 0
IsNew lines (Ok levels) = levels ≡ begun lines
IsNew lines (Err fault.NoMemory) = ⊤
IsNew lines (Err refusal) = ⊥

-- The result of taking the next line. If memory runs out, there is a line and the levels are unchanged.
abbrev pub TakesLine : Stack → Stack → Result (Option (List ℕ)) MacroFault → Type 0
TakesLine old new (Ok None) = next_line old ≡ (Nothing, new)
TakesLine old new (Ok (Some text)) = next_line old ≡ (Line text, new)
TakesLine old new (Err (fault.TooLong front)) = next_line old ≡ (TooLong front, new)
TakesLine old new (Err fault.NoMemory) = ((next_line old).0 ≢ Nothing) × (new ≡ old)
TakesLine old new (Err refusal) = ⊥

-- The result of appending a typed line to the document.
abbrev pub Adds : List ℕ → Stack → Stack → Result (Unit {0}) MacroFault → Type 0
Adds line old new (Ok done) = new ≡ with_typed line old
Adds line old new (Err fault.NoMemory) = new ≡ old
Adds line old new (Err refusal) = ⊥

-- The result of taking the document of an INPUT.
abbrev pub TakesDocument : Stack → Stack → Result (List ℕ) MacroFault → Type 0
TakesDocument old new (Ok text) = (text ≡ document_of old) × (new ≡ document_passed old)
TakesDocument old new (Err fault.NoMemory) = new ≡ old
TakesDocument old new (Err refusal) = ⊥

-- The result of calling a macro. It is refused if and only if there are 8 levels, and a refusal changes nothing.
abbrev pub Calls : List (List ℕ) → List (List ℕ) → Stack → Stack → Result (Unit {0}) MacroFault → Type 0
Calls lines params old new (Ok done) = (is_deepest old ≡ false) × (new ≡ called lines params old)
Calls lines params old new (Err fault.TooDeep) = (is_deepest old ≡ true) × (new ≡ old)
Calls lines params old new (Err fault.NoMemory) = (is_deepest old ≡ false) × (new ≡ old)
Calls lines params old new (Err refusal) = ⊥

-- The result of a GOTO. It is refused if and only if no line of the current level has the label.
abbrev pub Goes : List ℕ → Stack → Stack → Result (Unit {0}) MacroFault → Type 0
Goes label old new (Ok done) = (place : ℕ) × (line_of_label label (current old).lines ≡ Some place) × (new ≡ gone_to place old)
Goes label old new (Err fault.NoLabel) = (line_of_label label (current old).lines ≡ None) × (new ≡ old)
Goes label old new (Err refusal) = ⊥

-- The result of a WHENEVER. It is refused if and only if the current level is full, and a refusal changes nothing.
abbrev pub Keeps : Cond → List ℕ → Stack → Stack → Result (Unit {0}) MacroFault → Type 0
Keeps cond command old new (Ok done) = (is_full_for cond old ≡ false) × (new ≡ with_whenever cond command old)
Keeps cond command old new (Err fault.WheneversFull) = (is_full_for cond old ≡ true) × (new ≡ old)
Keeps cond command old new (Err fault.NoMemory) = (is_full_for cond old ≡ false) × (new ≡ old)
Keeps cond command old new (Err refusal) = ⊥

-- The result of firing a WHENEVER: the command that fires and the levels from its own on, or none.
abbrev pub Fires : Outcome → Stack → Stack → Result (Option (List ℕ)) MacroFault → Type 0
Fires outcome old new (Ok None) = (fired outcome old.levels ≡ None) × (new ≡ old)
Fires outcome old new (Ok (Some command)) = (fired outcome old.levels ≡ Some (command, new.levels)) × (new.held ≡ old.held)
Fires outcome old new (Err fault.NoMemory) = (fired outcome old.levels ≢ None) × (new ≡ old)
Fires outcome old new (Err refusal) = ⊥
