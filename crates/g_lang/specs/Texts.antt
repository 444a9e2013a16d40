-- Parts of a line.
use denote.Ref.{Bor}
use Rattle.std.specs.Prelude.{Err, List, None, Ok, Option, Result, Some, [], false, length, map, suc, true, ℕ, ◌≡◌, ◌≢◌}
use Rattle.g_lang.specs.LineReader.{Params, behind_word, parts_of, wrong_from}
use Rattle.g_lang.specs.Lines.{IsCommandText}
use Rattle.g_lang.specs.Words.{is_label, trimmed, without_back, word_of}
use Rattle.g_lang.specs.declared.fault.LangFault.{LangFault}
use Rattle.g_lang.specs.declared.fault.LangFault.TheVariants.{BadLine, NoMemory}
use Rattle.g_name.specs.Grammar.{is_word}

-- The text begins with the name of a verb or macro.
abbrev pub IsVerbText : List ℕ → Type 0
IsVerbText text = is_word (word_of text) ≡ true

-- In a line without spaces at its ends, what isn't a label is a command.
abbrev pub HasCommands : List ℕ → Type 0
HasCommands text = ((is_label (word_of text) ≡ true) → behind_word text ≢ [] → IsCommandText (behind_word text)) × ((is_label (word_of text) ≡ false) → text ≢ [] → IsCommandText text)

-- A line without leading spaces, split after its label, if it has one.
abbrev pub IsCut : List ℕ → Option (List ℕ) → List ℕ → Type 0
IsCut line None command = (is_label (word_of line) ≡ false) × (command ≡ line)
IsCut line (Some label) command = (is_label (word_of line) ≡ true) × (label ≡ word_of line) × (command ≡ behind_word line)

-- The parameters of a verb that begin at byte `from` of the line: their text, or the place where the line goes wrong.
abbrev pub ReadsParams : ℕ → List ℕ → Result (List ℕ) LangFault → Type 0
ReadsParams from params (Ok text) = (wrong_from (Params 0) from params ≡ None) × (text ≡ without_back params)
ReadsParams from params (Err (BadLine place)) = wrong_from (Params 0) from params ≡ Some place
ReadsParams from params (Err NoMemory) = wrong_from (Params 0) from params ≡ None

-- The parameters of a text; an empty text has one, which is empty, as after a comma.
abbrev pub params_of : List ℕ → List (List ℕ)
params_of text = map trimmed (parts_of 0 text)

-- The parameters that are left of a text, if anything is left.
abbrev pub params_left : Option (Bor (List ℕ)) → List (List ℕ)
params_left None = []
params_left (Some rest) = params_of rest.now

-- The number of bytes that are left plus one, or 0 if nothing is left.
abbrev pub bytes_left : Option (Bor (List ℕ)) → ℕ
bytes_left None = 0
bytes_left (Some rest) = suc (length rest.now)
