-- The parts of lines. No line here has its byte 10.
use Rattle.std.specs.Prelude.{ℕ, List, [], ◌∷◌, ◌++◌, codes, if◌then◌else◌}
use Rattle.std.specs.Fmt.{decimal}
use Rattle.g_name.specs.declared.full.Full.{Full}
use Rattle.g_name.specs.Names.{name_text, full_name}
use Rattle.g_trap.specs.declared.mode_set.Mode.{Mode}
use Rattle.g_trap.specs.declared.mode_set.Mode.TheVariants.{Read, Write, Append, Execute, Erase}
use Rattle.g_trap.specs.ModeSet.{allows}

-- The word of a mode.
abbrev pub mode_word : Mode → List ℕ
mode_word Read = codes "READ"
mode_word Write = codes "WRITE"
mode_word Append = codes "APPEND"
mode_word Execute = codes "EXECUTE"
mode_word Erase = codes "ERASE"

-- The text of a full name.
abbrev pub full_text : Full → List ℕ
full_text full = name_text (full_name full)

-- The mode's letter, or a dot if the mode is closed.
abbrev pub shown_mode : ℕ → Mode → ℕ → ℕ
shown_mode modes mode letter = if allows modes mode then letter else 46

-- `RWAXE`, with a dot for each mode that is closed.
unfoldable pub modes_text : ℕ → List ℕ
modes_text modes =
    shown_mode modes Read 82 ∷ shown_mode modes Write 87 ∷ shown_mode modes Append 65 ∷ shown_mode modes Execute 88 ∷ shown_mode modes Erase 69 ∷ []

-- Words and a number.
abbrev pub with_number : List ℕ → ℕ → List ℕ
with_number words n = words ++ decimal n

-- Words and two numbers with a space between them.
abbrev pub with_numbers : List ℕ → ℕ → ℕ → List ℕ
with_numbers words m n = ((words ++ decimal m) ++ codes " ") ++ decimal n

-- Words, a full name, a space and a number.
abbrev pub with_copy : List ℕ → Full → ℕ → List ℕ
with_copy words full n = ((words ++ full_text full) ++ codes " ") ++ decimal n
