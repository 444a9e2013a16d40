-- What the values of the code say.
use Rattle.std.specs.Prelude.{Bool, Err, List, None, Ok, Option, Result, Some, [], codes, false, is_ok, true, ℕ, ◌≡◌}
use Rattle.g_lang.specs.LineReader.{params_read}
use Rattle.g_lang.specs.Lines.{IsLineText, IsReading, LineSaid, Reading, Said, SaidGoto, SaidIf, SaidVerb, SaidWhenever}
use Rattle.g_lang.specs.declared.fault.LangFault.{LangFault}
use Rattle.g_lang.specs.declared.fault.LangFault.TheVariants.{BadLine, NoMemory}
use Rattle.g_lang.specs.declared.line.Command.{Command}
use Rattle.g_lang.specs.declared.line.Command.TheVariants.{Blank, Goto, If', Verb, Whenever}
use Rattle.g_lang.specs.declared.line.Line.{Line}
use Rattle.g_name.specs.Order.{same_text}

-- What the command after a condition says. It is never blank, so a blank one is mapped to something that no line says. The parameters of a verb are
-- those in its text.
abbrev pub said_inside : Command → Said
said_inside Blank = SaidVerb [] [] []
said_inside (If' cond p inner) = SaidIf cond (said_inside inner)
said_inside (Goto label) = SaidGoto label
said_inside (Whenever cond command) = SaidWhenever cond command
said_inside (Verb name rest) = SaidVerb name (params_read rest) rest

-- What a command says; a blank one says nothing.
abbrev pub command_said : Command → Option Said
command_said Blank = None
command_said command = Some (said_inside command)

-- What a line of the code says.
abbrev pub line_said : Line → LineSaid
line_said line = record { label = line.label; command = command_said line.command }

-- The result of parsing a text.
abbrev pub Reads : List ℕ → Result Line LangFault → Type 0
Reads text (Ok line) = IsReading text (Ok (line_said line))
Reads text (Err (BadLine place)) = IsReading text (Err place)
Reads text (Err NoMemory) = IsLineText text

-- The command is an INPUT.
abbrev pub is_input_of : Option Said → Bool
is_input_of (Some (SaidVerb name params rest)) = same_text name (codes "INPUT")
is_input_of said = false

-- The reading is an INPUT.
abbrev pub is_input_said : Reading → Bool
is_input_said (Ok said) = is_input_of said.command
is_input_said (Err place) = false

-- The reading of a text, as a result of the code; memory may run out only for a line of the grammar.
abbrev pub IsReadAs : Reading → Result Line LangFault → Type 0
IsReadAs r (Ok line) = r ≡ Ok (line_said line)
IsReadAs r (Err (BadLine place)) = r ≡ Err place
IsReadAs r (Err NoMemory) = is_ok r ≡ true
