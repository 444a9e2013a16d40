-- Program files: the first line is the number of words; the lines after it are the words. Each is eight octal digits.
use Rattle.std.specs.Prelude.{◌≡◌, ◌≢◌, ⊤, Vec, Result, Ok, Err, ℕ, ◌+◌, ◌-◌, ◌*◌, ◌==◌, ◌&&◌, Bool, true, false, List, [], ◌∷◌, ◌++◌, length, map, fold, min, replicate, Option, Some, None, nat_lt, nat_le, if◌then◌else◌}
use Rattle.std.specs.List.{list_all, prefix_len}
use Rattle.std.specs.declared.alloc.Global.{Global}
use Rattle.g_mill.specs.Machine.{Machine}
use Rattle.g_mill.specs.declared.loading.LoadFault.{LoadFault}
use Rattle.g_mill.specs.declared.loading.LoadFault.TheVariants.{BadProgram, NoMemory}

-- The byte is a digit from 0 to 7.
abbrev pub is_octal_digit : ℕ → Bool
is_octal_digit b = nat_le 48 b && nat_lt b 56

-- The line is eight octal digits.
abbrev pub is_word_line : List ℕ → Bool
is_word_line line = (length line == 8) && list_all is_octal_digit line

-- The number that octal digits write.
abbrev pub octal : List ℕ → ℕ
octal line = fold (λ number digit. 8 * number + (digit - 48)) 0 line

-- The line is the size of a program: 32 to 32,768 words.
abbrev pub is_size_line : List ℕ → Bool
is_size_line line = is_word_line line && nat_le 32 (octal line) && nat_le (octal line) 32768

-- The first line of a file is the size of a program.
abbrev pub is_sized : List (List ℕ) → Bool
is_sized [] = false
is_sized (first ∷ words) = is_size_line first

-- The number of good lines after the first: they are words, and the program has room for them.
abbrev pub good_lines : ℕ → List (List ℕ) → ℕ
good_lines size words = min size (prefix_len is_word_line words)

-- The first bad line of a program file, counted from 1; none if all are good.
abbrev pub bad_line : List (List ℕ) → Option ℕ
bad_line [] = Some 1
bad_line (first ∷ words) =
    if is_size_line first then (if good_lines (octal first) words == length words then None else Some (good_lines (octal first) words + 2)) else Some 1

-- The program of a file without a bad line; words without a line are zero.
abbrev pub program_of : List (List ℕ) → Machine
program_of [] = record { words = []; next = 0; overflow = false }
program_of (first ∷ words) = record { words = map octal words ++ replicate (octal first - length words) 0; next = 0; overflow = false }

-- The result of loading a file of these lines. Memory is allocated only if the first line is a size.
abbrev pub Loads : List (List ℕ) → Result Machine LoadFault → Type 0
Loads file (Ok program) = (bad_line file ≡ None) × (program ≡ program_of file)
Loads file (Err (BadProgram line)) = bad_line file ≡ Some line
Loads file (Err NoMemory) = is_sized file ≡ true

-- The result of reading these lines of words for a program of this size.
abbrev pub ReadsWords : ℕ → List (List ℕ) → Result (Vec ℕ Global) LoadFault → Type 0
ReadsWords size file (Ok words) = (good_lines size file ≡ length file) × (words.items ≡ map octal file)
ReadsWords size file (Err (BadProgram line)) = (good_lines size file ≢ length file) × (line ≡ good_lines size file + 2)
ReadsWords size file (Err NoMemory) = ⊤
