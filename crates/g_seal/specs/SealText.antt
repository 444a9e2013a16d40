-- The text of a seal: a line for each dump and for each file, and a last line with the sum of all lines before it. A sum is a SHA-256.
use Rattle.std.specs.Prelude.{ℕ, List, [], ◌++◌, map, Bool, codes, if◌then◌else◌}
use Rattle.hex.specs.Hex.{encode_lower}
use Rattle.sha2.specs.Sha256.{sha256}
use Rattle.g_lines.specs.Lines.{ended, text_of}
use Rattle.g_monitor.specs.Parts.{full_text}
use Rattle.g_look.specs.FileLines.{taped_text}
use Rattle.g_look.specs.Text.{told}
use Rattle.g_seal.specs.declared.entries.SealedDump.{SealedDump}
use Rattle.g_seal.specs.declared.entries.SealedFile.{SealedFile}

-- A sum in 64 lower-case hex digits, after its word.
abbrev pub sum_text : List ℕ → List ℕ
sum_text sum = codes " SHA256 " ++ encode_lower sum

-- THE LINE OF A DUMP: its number, its reel, its first block there, how many blocks it has, and their sum.
abbrev pub dump_line : SealedDump → List ℕ
dump_line d =
    told (codes "DUMP ") d.number ++ told (codes " TAPE ") d.serial ++ told (codes " AT ") d.place ++ told (codes " BLOCKS ") d.blocks ++ sum_text d.sum

-- The word `DISC` if the file is on the disc.
abbrev pub online_text : Bool → List ℕ
online_text online = if online then codes " DISC" else []

-- THE LINE OF A FILE: its full name, its length, its stamp, the sum of its bytes, and where they are.
abbrev pub file_line : SealedFile → List ℕ
file_line f =
    codes "FILE " ++ full_text f.full ++ told (codes " LENGTH ") f.len ++ told (codes " STAMP ") f.stamp ++ sum_text f.sum ++ online_text f.online
    ++ taped_text f.tape

-- The last line with this sum.
abbrev pub last_line : List ℕ → List ℕ
last_line sum = codes "SEAL " ++ encode_lower sum

-- The last line, with the sum of the text before it.
abbrev pub seal_line : List ℕ → List ℕ
seal_line front = last_line (sha256 front)

-- The lines of dumps and then those of files.
abbrev pub sealed_lines : List SealedDump → List SealedFile → List (List ℕ)
sealed_lines dumps files = map dump_line dumps ++ map file_line files

-- These lines, each with its byte 10.
abbrev pub front_text : List SealedDump → List SealedFile → List ℕ
front_text dumps files = text_of (map dump_line dumps) ++ text_of (map file_line files)

-- THE WHOLE TEXT of a seal with these dumps and files.
abbrev pub sealed_text : List SealedDump → List SealedFile → List ℕ
sealed_text dumps files = front_text dumps files ++ ended (seal_line (front_text dumps files))
