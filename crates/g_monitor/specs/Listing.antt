-- The listings of files and directories. No line here has its byte 10.
use Rattle.std.specs.Prelude.{◌&&◌, ℕ, List, ◌++◌, map, nat_le, codes, if◌then◌else◌}
use Rattle.std.specs.Fmt.{decimal}
use Rattle.g_lines.specs.Lines.{lines_of}
use Rattle.g_name.specs.declared.full.Full.{Full}

-- The byte that a listing shows: `?` in place of one that can't be printed.
abbrev pub shown : ℕ → ℕ
shown byte = if nat_le 32 byte && nat_le byte 126 then byte else 63

-- A line of a file, after `| `.
abbrev pub shown_line : List ℕ → List ℕ
shown_line line = codes "| " ++ map shown line

-- The lines of a file; an empty file has none.
abbrev pub listed_lines : List ℕ → List (List ℕ)
listed_lines bytes = map shown_line (lines_of bytes)

-- A file in the listing of a directory, with its length in bytes: `| NAME(generation/LANG) length`.
abbrev pub row_line : Full × ℕ → List ℕ
row_line row = ((((((codes "| " ++ row.0.local) ++ codes "(") ++ decimal row.0.generation) ++ codes "/") ++ row.0.lang) ++ codes ") ") ++ decimal row.1
