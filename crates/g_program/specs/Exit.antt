-- The exit status of the program.
use Rattle.std.specs.Prelude.{◌≡◌, ◌⊎◌, ◌<◌, ℕ, Bool, true, false, List, [], ◌∷◌, Some, None, codes, length}
use denote.Ref.{Bor}
use Rattle.g_base.specs.Counts.{Rose}
use Rattle.g_lines.specs.Lines.{lines_of}
use Rattle.g_script.specs.Script.{IsParsed}
use Rattle.g_script.specs.declared.operator.Timed.{Timed}
use Rattle.g_demo.specs.Words.{texts_of}
use Rattle.g_run.specs.Top.{code_of}
use Rattle.g_run.specs.declared.status.Status.{Status}
use Rattle.g_run.specs.declared.status.Status.TheVariants.{BadScript, Done, NoMemory, OutputFault, ScriptFault, TooLong, Words}

-- the exit status of a run that ended in one of these ways
abbrev pub IsExit : (Status → Type 0) → ℕ → Type 0
IsExit P code = (status : Status) × P status × (code ≡ code_of status)

-- the exit status if image, racks or log can't be used, by whether memory ran out
abbrev pub exit_without : Bool → ℕ
exit_without true = 5
exit_without false = 7

-- the statuses of a demonstration
abbrev pub IsOfDemo : Status → Type 0
IsOfDemo Done = Unit {0}
IsOfDemo OutputFault = Unit {0}
IsOfDemo NoMemory = Unit {0}
IsOfDemo status = ⊥

-- the words of a session, without a log and with one
abbrev pub IsConsole : List (Bor (List ℕ)) → Type 0
IsConsole words = (texts_of words ≡ codes "console" ∷ []) ⊎ ((log : List ℕ) × (texts_of words ≡ codes "console" ∷ log ∷ []))

-- the word of a check
abbrev pub IsCheck : List (Bor (List ℕ)) → Type 0
IsCheck words = texts_of words ≡ codes "check" ∷ []

-- a check prints nothing, and its word is known
abbrev pub IsOfCheck : Status → Type 0
IsOfCheck Words = ⊥
IsOfCheck OutputFault = ⊥
IsOfCheck status = Unit {0}

-- WHAT A CHECK FINDS in a script: it is a script; a line is its first bad one; it is too long
abbrev pub Finds : Status → List ℕ → Type 0
Finds Done script = (lines : List Timed) × IsParsed (lines_of script) lines None
Finds (BadScript line) script = (lines : List Timed) × IsParsed (lines_of script) lines (Some line)
Finds TooLong script = 16777216 < length script
Finds status script = Unit {0}

-- a count of faults rises exactly with the status of a fault
abbrev pub IsFaultOf : Status → ℕ → ℕ → Type 0
IsFaultOf ScriptFault old new = Rose old new
IsFaultOf status old new = new ≡ old
