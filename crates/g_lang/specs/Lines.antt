-- Written lines, their texts, and what they say.
use Rattle.std.specs.Prelude.{All, Bool, Err, IfSome, List, None, Ok, Option, Result, Some, [], codes, false, is_some, map, not, option_map, true, unwrap_or, ℕ, ◌&&◌, ◌++◌, ◌||◌, ◌∷◌, ◌≡◌, ◌≤◌}
use Rattle.g_lang.specs.Conditions.{IsCond, cond_text}
use Rattle.g_lang.specs.Words.{is_label, is_part, is_trimmed, joined, spaces, trimmed}
use Rattle.g_lang.specs.declared.line.Cond.{Cond}
use Rattle.g_name.specs.BadPlace.{IsBadPlace}
use Rattle.g_name.specs.Grammar.{is_word}
use Rattle.g_name.specs.Order.{same_text}

-- A written command: GOTO with its label; IF or WHENEVER with a condition and a command; or a verb, the number of spaces after it, and its parameters
-- with the spaces around them.
pub data Written : Type 0 where
  WrittenGoto : List ℕ → Written
  WrittenIf : Cond → Written → Written
  WrittenWhenever : Cond → Written → Written
  WrittenVerb : (name : List ℕ) → (gap : ℕ) → (parts : List (List ℕ)) → Written

-- The text of a verb's parameters, with the spaces before them.
abbrev pub params_text : ℕ → List (List ℕ) → List ℕ
params_text gap [] = []
params_text gap (part ∷ parts) = spaces gap ++ joined (part ∷ parts)

-- The text of a command.
abbrev pub command_text : Written → List ℕ
command_text (WrittenGoto label) = codes "GOTO " ++ label
command_text (WrittenIf cond inner) = codes "IF " ++ (cond_text cond ++ (44 ∷ command_text inner))
command_text (WrittenWhenever cond inner) = codes "WHENEVER " ++ (cond_text cond ++ (44 ∷ command_text inner))
command_text (WrittenVerb name gap parts) = name ++ params_text gap parts

-- The name is a verb: a word other than IF, WHENEVER and GOTO.
abbrev pub is_verb : List ℕ → Bool
is_verb name = is_word name && not (same_text name (codes "IF") || same_text name (codes "WHENEVER") || same_text name (codes "GOTO"))

-- A verb has no parameters, or at least one space and then some.
abbrev pub AreParts : ℕ → List (List ℕ) → Type 0
AreParts gap [] = Unit {0}
AreParts gap (part ∷ parts) = (1 ≤ gap) × All (λ p. is_part 0 p ≡ true) (part ∷ parts) × (is_trimmed (joined (part ∷ parts)) ≡ true)

-- The command is an INPUT, which no condition may precede.
abbrev pub is_input : Written → Bool
is_input (WrittenGoto label) = false
is_input (WrittenIf cond inner) = false
is_input (WrittenWhenever cond inner) = false
is_input (WrittenVerb name gap parts) = same_text name (codes "INPUT")

-- The command is well-formed: its labels, conditions, verbs and parameters are, and INPUT follows no condition.
abbrev pub IsWritten : Written → Type 0
IsWritten (WrittenGoto label) = is_label label ≡ true
IsWritten (WrittenIf cond inner) = IsCond cond × IsWritten inner × (is_input inner ≡ false)
IsWritten (WrittenWhenever cond inner) = IsCond cond × IsWritten inner × (is_input inner ≡ false)
IsWritten (WrittenVerb name gap parts) = (is_verb name ≡ true) × AreParts gap parts

-- What a command says.
pub data Said : Type 0 where
  SaidGoto : List ℕ → Said
  SaidIf : Cond → Said → Said
  SaidWhenever : Cond → List ℕ → Said
  SaidVerb : (name : List ℕ) → (params : List (List ℕ)) → (rest : List ℕ) → Said

-- What a written command says.
abbrev pub said_by : Written → Said
said_by (WrittenGoto label) = SaidGoto label
said_by (WrittenIf cond inner) = SaidIf cond (said_by inner)
said_by (WrittenWhenever cond inner) = SaidWhenever cond (command_text inner)
said_by (WrittenVerb name gap parts) = SaidVerb name (map trimmed parts) (joined parts)

-- The bytes are the text of some command.
abbrev pub IsCommandText : List ℕ → Type 0
IsCommandText text = (w : Written) × IsWritten w × (text ≡ command_text w)

-- The command stored for a WHENEVER, here or after conditions, is the text of a command.
abbrev pub KeepsCommand : Said → Type 0
KeepsCommand (SaidGoto label) = Unit {0}
KeepsCommand (SaidIf cond inner) = KeepsCommand inner
KeepsCommand (SaidWhenever cond command) = IsCommandText command
KeepsCommand (SaidVerb name params rest) = Unit {0}

-- A written line: a label and a command, each of which may be absent, with spaces around them.
pub record WrittenLine : Type 0 where
  pub front : ℕ
  pub label : Option (List ℕ)
  pub gap : ℕ
  pub command : Option Written
  pub back : ℕ

-- The text of a command, empty if there is none.
abbrev pub option_text : Option Written → List ℕ
option_text None = []
option_text (Some command) = command_text command

-- The text of a written line.
abbrev pub line_text : WrittenLine → List ℕ
line_text l = spaces l.front ++ (unwrap_or l.label [] ++ (spaces l.gap ++ (option_text l.command ++ spaces l.back)))

-- The line is well-formed: its label and its command are, and at least one space is between them.
pub record IsLine (l : WrittenLine) : Type 0 where
  pub label : IfSome l.label (λ label. is_label label ≡ true)
  pub command : IfSome l.command IsWritten
  pub apart : is_some l.label && is_some l.command ≡ true → 1 ≤ l.gap

-- THE GRAMMAR: the bytes are the text of some line.
abbrev pub IsLineText : List ℕ → Type 0
IsLineText text = (l : WrittenLine) × IsLine l × (text ≡ line_text l)

-- What a line says; a blank one has no command.
pub record LineSaid : Type 0 where
  pub label : Option (List ℕ)
  pub command : Option Said

-- What a written line says.
abbrev pub said_in : WrittenLine → LineSaid
said_in l = record { label = l.label; command = option_map said_by l.command }

-- The reading of a text: what it says as a line, or the place where it goes wrong.
abbrev pub Reading : Type 0
Reading = Result LineSaid ℕ

-- The reading is right: some well-formed line has this text and says this; or none has it, and this is the place where the text goes wrong.
abbrev pub IsReading : List ℕ → Reading → Type 0
IsReading text (Ok said) = (l : WrittenLine) × IsLine l × (text ≡ line_text l) × (said ≡ said_in l)
IsReading text (Err place) = (IsLineText text → ⊥) × IsBadPlace IsLineText text place
