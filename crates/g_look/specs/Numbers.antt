-- FILES BY NUMBER in the order of their names, as a list visits them.
use Rattle.std.specs.Prelude.{◌≡◌, ℕ, List, [], ◌∷◌, ◌++◌, length, map, Option, Some, None, codes}
use Rattle.std.specs.List.{flat_map}
use Rattle.std.specs.FinMap.{get}
use Rattle.g_copy.specs.declared.copy.DiscCopy.{DiscCopy}
use Rattle.g_entry.specs.declared.file_rec.FileRec.{FileRec}
use Rattle.g_entry.specs.declared.user_rec.UserRec.{UserRec}
use Rattle.g_dirs.specs.Directory.{copy_at}
use Rattle.g_tree.specs.Records.{by_number, full_of}
use Rattle.g_look.specs.FileLines.{disc_file_line, dumped_file_line}
use Rattle.g_look.specs.Lists.{HasUser, files_named}
use Rattle.g_look.specs.Text.{told}

-- The numbers of a user's files, in the order of their names.
abbrev pub numbers_named : List UserRec → List FileRec → List ℕ → List ℕ
numbers_named users files user = map (λ e. e.1.number) (files_named (λ r. r) users files user)

-- The numbers of all users' files, users by number.
abbrev pub all_numbers : List UserRec → List FileRec → List ℕ
all_numbers users files = flat_map (λ u. numbers_named users files u.user) users

-- The requested numbers: of all users' files, or of one user's.
abbrev pub asked_numbers : List UserRec → List FileRec → Option (List ℕ) → List ℕ
asked_numbers users files None = all_numbers users files
asked_numbers users files (Some user) = numbers_named users files user

-- A line of the file, if there is one.
abbrev pub line_if : (FileRec → List ℕ) → Option FileRec → List (List ℕ)
line_if line None = []
line_if line (Some r) = line r ∷ []

-- The line of the file of a number, if there is one.
abbrev pub lines_at : (FileRec → List ℕ) → List FileRec → ℕ → List (List ℕ)
lines_at line files number = line_if line (get (by_number files) number)

-- The line of a file of a disc.
abbrev pub disc_line : List UserRec → List (ℕ × DiscCopy) → FileRec → List ℕ
disc_line users online r = disc_file_line (full_of users r) users (copy_at online r.number) r

-- The line of a file that a restore gives.
abbrev pub dumped_line : List UserRec → FileRec → List ℕ
dumped_line users r = dumped_file_line (full_of users r) users r

-- The lines of these files of a disc, and how many there are.
abbrev pub lines_listed : List UserRec → List FileRec → List (ℕ × DiscCopy) → List ℕ → List (List ℕ)
lines_listed users files online numbers = flat_map (lines_at (disc_line users online) files) numbers ++ told (codes "LISTED ") (length numbers) ∷ []

-- The lines of these files as a restore gives them, and the dump from which it gives them.
abbrev pub lines_dumped : List UserRec → List FileRec → ℕ → List ℕ → List (List ℕ)
lines_dumped users files number numbers = flat_map (lines_at (dumped_line users) files) numbers ++ told (codes "RESTORABLE FROM DUMP ") number ∷ []

-- The requested user isn't one of these.
abbrev pub IsNobodyOf : List UserRec → Option (List ℕ) → Type 0
IsNobodyOf users only = (name : List ℕ) × (only ≡ Some name) × (HasUser users name → ⊥)
