-- The levels of a job, and the lines that it takes from them.
use Rattle.std.specs.Prelude.{All, Bool, List, None, Option, Some, [], codes, drop, false, find, if◌then◌else◌, length, nat_le, nat_lt, not, option_map, replicate, slice_index_or, slice_set, take, true, ℕ, ◌&&◌, ◌==◌, ◌++◌, ◌+◌, ◌-◌, ◌||◌, ◌∷◌, ◌≡◌, ◌≤◌}
use Rattle.g_lang.specs.Conditions.{same_cond}
use Rattle.g_lang.specs.Lines.{IsCommandText}
use Rattle.g_lang.specs.Words.{has_label}
use Rattle.g_lang.specs.declared.line.Cond.{Cond}
use Rattle.g_lines.specs.Lines.{text_of}
use Rattle.g_macro.specs.Questions.{cond_holds}
use Rattle.g_macro.specs.Expansion.{substituted}
use Rattle.g_macro.specs.declared.entry.Entry.{Entry}
use Rattle.g_macro.specs.declared.outcome.Outcome.{Outcome}
use Rattle.g_name.specs.Order.{same_text}

-- A level: all its lines, its 24 parameters, how many lines were taken, and its WHENEVERs in order.
pub record Level : Type 0 where
  pub lines : List (List ℕ)
  pub params : List (List ℕ)
  pub taken : ℕ
  pub entries : List Entry

-- THE LEVELS, the current one first, and whether the last of them, the document, is held open for more lines.
pub record Stack : Type 0 where
  pub levels : List Level
  pub held : Bool

-- 24 parameters; those that weren't given are empty.
abbrev pub padded : List (List ℕ) → List (List ℕ)
padded params = params ++ replicate (24 - length params) []

-- A level at its beginning, with these lines and parameters.
abbrev pub level_of : List (List ℕ) → List (List ℕ) → Level
level_of lines params = record { lines = lines; params = padded params; taken = 0; entries = [] }

-- The levels of a job at its beginning.
abbrev pub begun : List (List ℕ) → Stack
begun lines = record { levels = level_of lines [] ∷ []; held = false }

-- The level has a line left.
abbrev pub has_line : Level → Bool
has_line level = nat_lt level.taken (length level.lines)

-- The next line of the level.
abbrev pub line_at : Level → List ℕ
line_at level = slice_index_or level.lines level.taken []

-- No level is below.
abbrev pub is_last : List Level → Bool
is_last [] = true
is_last (level ∷ levels) = false

-- The levels without the leading ones that have no line left; a document that is held open remains.
abbrev pub live : Bool → List Level → List Level
live held [] = []
live held (level ∷ below) = if has_line level || (held && is_last below) then level ∷ below else live held below

-- The taken line: none, a line, or the first 240 bytes of a longer one.
pub data Taken : Type 0 where
  Nothing : Taken
  Line : List ℕ → Taken
  TooLong : List ℕ → Taken

-- A line as it is taken, or the first 240 bytes of a longer one.
abbrev pub as_taken : List ℕ → Taken
as_taken text = if nat_le (length text) 240 then Line text else TooLong (take 240 text)

-- The level after its next line was taken.
abbrev pub line_taken : Level → Level
line_taken level = record level { taken = level.taken + 1 }

-- The next line of the first of these levels, if it has one, and the levels afterwards.
abbrev pub take_line : Bool → List Level → Taken × Stack
take_line held [] = (Nothing, record { levels = []; held = held })
take_line held (level ∷ below) =
    if has_line level
    then (as_taken (substituted level.params (line_at level)), record { levels = line_taken level ∷ below; held = held })
    else (Nothing, record { levels = level ∷ below; held = held })

-- THE NEXT LINE: what is taken, and the levels afterwards.
abbrev pub next_line : Stack → Taken × Stack
next_line s = take_line s.held (live s.held s.levels)

-- The levels with another current level; without any level nothing changes.
abbrev pub changed : (Level → Level) → List Level → List Level
changed change [] = []
changed change (level ∷ below) = change level ∷ below

-- The levels with the current one changed.
abbrev pub with_current : (Level → Level) → Stack → Stack
with_current change s = record s { levels = changed change s.levels }

-- The first level; an empty one if there is none.
abbrev pub first_level : List Level → Level
first_level [] = level_of [] []
first_level (level ∷ below) = level

-- The current level.
abbrev pub current : Stack → Level
current s = first_level s.levels

-- The line is `////`.
abbrev pub is_closing : List ℕ → Bool
is_closing line = same_text line (codes "////")

-- The lines before the first `////`.
abbrev pub before_closing : List (List ℕ) → List (List ℕ)
before_closing [] = []
before_closing (line ∷ lines) = if is_closing line then [] else line ∷ before_closing lines

-- The number of lines up to and including the first `////`.
abbrev pub passed : List (List ℕ) → ℕ
passed [] = 0
passed (line ∷ lines) = if is_closing line then 1 else 1 + passed lines

-- The lines of the level that weren't taken yet.
abbrev pub lines_left : Level → List (List ℕ)
lines_left level = drop level.taken level.lines

-- THE DOCUMENT of an INPUT, each line with its byte 10.
abbrev pub document_of : Stack → List ℕ
document_of s = text_of (before_closing (lines_left (current s)))

-- The level after the lines of a document were taken, and `////` with them.
abbrev pub past_document : Level → Level
past_document level = record level { taken = level.taken + passed (lines_left level) }

-- The levels after the document of an INPUT was taken from the current one.
abbrev pub document_passed : Stack → Stack
document_passed s = with_current past_document s

-- There are 8 levels already.
abbrev pub is_deepest : Stack → Bool
is_deepest s = nat_le 8 (length s.levels)

-- The levels after a macro with these lines and parameters was called; its level is the current one.
abbrev pub called : List (List ℕ) → List (List ℕ) → Stack → Stack
called lines params s = record s { levels = level_of lines params ∷ s.levels }

-- The first line of the level that has this label.
abbrev pub line_of_label : List ℕ → List (List ℕ) → Option ℕ
line_of_label label [] = None
line_of_label label (line ∷ lines) = if has_label label line then Some 0 else option_map (λ n. 1 + n) (line_of_label label lines)

-- The level with its next line at this place.
abbrev pub at_line : ℕ → Level → Level
at_line place level = record level { taken = place }

-- The levels with the current one's next line at this place.
abbrev pub gone_to : ℕ → Stack → Stack
gone_to place s = with_current (at_line place) s

-- One of the entries has an equal condition.
abbrev pub has_cond : Cond → List Entry → Bool
has_cond cond [] = false
has_cond cond (entry ∷ entries) = same_cond entry.cond cond || has_cond cond entries

-- The entries with a command for a condition: it replaces that of an equal condition, or is appended.
abbrev pub with_entry : Cond → List ℕ → List Entry → List Entry
with_entry cond command [] = record { cond = cond; command = command } ∷ []
with_entry cond command (entry ∷ entries) =
    if same_cond entry.cond cond then record entry { command = command } ∷ entries else entry ∷ with_entry cond command entries

-- The current level has no room for a command that waits for this condition.
abbrev pub is_full_for : Cond → Stack → Bool
is_full_for cond s = not (has_cond cond (current s).entries) && nat_le 16 (length (current s).entries)

-- The level with a command stored for a condition.
abbrev pub entry_kept : Cond → List ℕ → Level → Level
entry_kept cond command level = record level { entries = with_entry cond command level.entries }

-- The levels with a command stored for a condition in the current one.
abbrev pub with_whenever : Cond → List ℕ → Stack → Stack
with_whenever cond command s = with_current (entry_kept cond command) s

-- The level with the parameter of a letter set.
abbrev pub param_set : ℕ → List ℕ → Level → Level
param_set letter value level = record level { params = slice_set level.params (letter - 65) value }

-- The levels with a parameter of the current one set.
abbrev pub with_param : ℕ → List ℕ → Stack → Stack
with_param letter value s = with_current (param_set letter value) s

-- The condition holds, by the parameters of the current level and the outcome of the last command.
abbrev pub holds : Stack → Cond → Outcome → Bool
holds s cond outcome = cond_holds (current s).params outcome cond

-- A command waits in the level.
abbrev pub has_entry : Level → Bool
has_entry level = not (length level.entries == 0)

-- The first entry of a level whose condition holds.
abbrev pub entry_that_holds : Level → Outcome → Option Entry
entry_that_holds level outcome = find (λ entry. cond_holds level.params outcome entry.cond) level.entries

-- THE WHENEVER THAT FIRES: the entries of the current level are tried in order, then those of the one below, and so on; the levels above the one that
-- fires are dropped.
abbrev pub fired : Outcome → List Level → Option (List ℕ × List Level)
fired outcome [] = None
fired outcome (level ∷ below) = elim (entry_that_holds level outcome) [ Some entry ↦ Some (entry.command, level ∷ below) | None ↦ fired outcome below ]

-- The rules of a level: 24 parameters, no more lines taken than it has, at most 16 entries, and each stored command is the text of a command.
pub record IsLevel (level : Level) : Type 0 where
  pub params : length level.params ≡ 24
  pub taken : level.taken ≤ length level.lines
  pub entries : length level.entries ≤ 16
  pub commands : All (λ entry. IsCommandText entry.command) level.entries

-- The place of the entry with this condition.
abbrev pub place_of_cond : Cond → List Entry → Option ℕ
place_of_cond cond [] = None
place_of_cond cond (entry ∷ entries) =
    if same_cond entry.cond cond then Some 0 else option_map (λ n. 1 + n) (place_of_cond cond entries)
