-- The meaning of lines that were read, and the command after the conditions of a line.
use Rattle.std.specs.Prelude.{Bool, Err, IfSome, List, None, Ok, Option, Result, Some, [], false, true, ℕ, ◌∷◌, ◌≡◌}
use Rattle.g_turn.specs.Commands.{done_if}
use Rattle.g_turn.specs.State.{Work}
use Rattle.g_lang.specs.Lines.{IsCommandText, Reading, Said, SaidGoto, SaidIf, SaidVerb, SaidWhenever}
use Rattle.g_lang.specs.Meaning.{command_said, line_said}
use Rattle.g_lang.specs.declared.fault.LangFault.{LangFault}
use Rattle.g_lang.specs.declared.fault.LangFault.TheVariants.{BadLine, NoMemory}
use Rattle.g_lang.specs.declared.line.Command.{Command}
use Rattle.g_lang.specs.declared.line.Command.TheVariants.{Blank, If'}
use Rattle.g_lang.specs.declared.line.Line.{Line}
use Rattle.g_plain.specs.Programs.{Gives}

-- What a line says is well-formed: a verb has a name, and a command stored for a condition is the text of one.
abbrev pub IsSpoken : Said → Type 0
IsSpoken (SaidGoto label) = Unit {0}
IsSpoken (SaidIf cond inner) = IsSpoken inner
IsSpoken (SaidWhenever cond command) = IsCommandText command
IsSpoken (SaidVerb [] params rest) = ⊥
IsSpoken (SaidVerb (letter ∷ name) params rest) = Unit {0}

-- The place where a line goes wrong; 0 if memory ran out, since none is known then.
abbrev pub place_of : LangFault → ℕ
place_of (BadLine place) = place
place_of NoMemory = 0

-- The reading of a text as a result of the code: what its line says, or the place where it goes wrong.
abbrev pub read_as : Result Line LangFault → Reading
read_as (Ok line) = Ok (line_said line)
read_as (Err fault) = Err (place_of fault)

-- Memory ran out, so the reading of the text is unknown.
abbrev pub is_wanting : Result Line LangFault → Bool
is_wanting (Err NoMemory) = true
is_wanting other = false

-- What a line that was read says is well-formed.
abbrev pub IsReadWell : Result Line LangFault → Type 0
IsReadWell (Ok line) = IfSome (command_said line.command) IsSpoken
IsReadWell (Err fault) = Unit {0}

-- The line that was read is a GOTO to this label.
abbrev pub SaysGoto : Result Line LangFault → List ℕ → Type 0
SaysGoto (Ok line) label = command_said line.command ≡ Some (SaidGoto label)
SaysGoto (Err fault) label = ⊥

-- The command isn't preceded by a condition.
abbrev pub IsBare : Command → Type 0
IsBare Blank = ⊥
IsBare (If' cond p inner) = ⊥
IsBare command = Unit {0}

-- The effect of a command is none, or that of another command without a condition.
abbrev pub Met : Command → Work → Option Command → Type 0
Met command w None = (room : ℕ) (who : List ℕ) (by : Bool) → done_if room who by (command_said command) w ≡ Gives w
Met command w (Some other) =
    IsBare other × ((room : ℕ) (who : List ℕ) (by : Bool) → done_if room who by (command_said command) w ≡ done_if room who by (command_said other) w)
