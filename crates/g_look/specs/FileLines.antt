-- THE LINES OF FILES.
use Rattle.std.specs.Prelude.{ℕ, ◌==◌, List, [], ◌++◌, Option, Some, None, codes, if◌then◌else◌}
use Rattle.std.specs.List.{flat_map}
use Rattle.g_copy.specs.declared.copy.DiscCopy.{DiscCopy}
use Rattle.g_entry.specs.declared.file_rec.FileRec.{FileRec}
use Rattle.g_entry.specs.declared.file_rec.TapeCopy.{TapeCopy}
use Rattle.g_entry.specs.declared.user_rec.UserRec.{UserRec}
use Rattle.g_name.specs.declared.full.Full.{Full}
use Rattle.g_monitor.specs.Parts.{full_text, modes_text}
use Rattle.g_look.specs.Text.{copy_text, holder_text, told}

-- A user, and what the user may do.
abbrev pub trap_text : List UserRec → ℕ × ℕ → List ℕ
trap_text users pair = holder_text users pair.0 ++ codes " " ++ modes_text pair.1

-- The beginning of a file's line: full name, length, stamp, and traps, those of the owner first, then the others in order of number.
abbrev pub file_front : Full → List UserRec → FileRec → List ℕ
file_front full users r =
    full_text full ++ told (codes " LENGTH ") r.len ++ told (codes " STAMP ") r.stamp ++ codes " TRAPS"
    ++ trap_text users (r.owner, r.traps.owner) ++ flat_map (trap_text users) r.traps.others

-- The number of a block, after a space.
abbrev pub place_text : ℕ → List ℕ
place_text k = told (codes " ") k

-- The blocks of a file's copy on the disc.
abbrev pub blocks_text : Option DiscCopy → List ℕ
blocks_text None = []
blocks_text (Some copy) = codes " DISC" ++ flat_map place_text copy.blocks

-- The place of a file's copy on tape.
abbrev pub taped_text : Option TapeCopy → List ℕ
taped_text None = []
taped_text (Some c) = copy_text c

-- An empty file counts as on the disc.
abbrev pub empty_text : ℕ → List ℕ
empty_text len = if len == 0 then codes " DISC" else []

-- The line of a file of a disc.
abbrev pub disc_file_line : Full → List UserRec → Option DiscCopy → FileRec → List ℕ
disc_file_line full users copy r = file_front full users r ++ blocks_text copy ++ taped_text r.tape

-- The line of a file that a restore gives.
abbrev pub dumped_file_line : Full → List UserRec → FileRec → List ℕ
dumped_file_line full users r = file_front full users r ++ empty_text r.len ++ taped_text r.tape
