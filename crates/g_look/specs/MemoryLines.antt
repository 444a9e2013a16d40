-- THE LINES of the dumps and of the directory in memory.
use Rattle.std.specs.Prelude.{ℕ, ◌+◌, ◌-◌, ◌==◌, ◌&&◌, Bool, List, [], ◌++◌, map, filter, length, Option, Some, None, codes, if◌then◌else◌}
use Rattle.std.specs.List.{flat_map}
use Rattle.g_copy.specs.declared.copy.DiscCopy.{DiscCopy}
use Rattle.g_entry.specs.declared.file_rec.FileRec.{FileRec}
use Rattle.g_entry.specs.declared.head.Intent.{Intent}
use Rattle.g_entry.specs.declared.format.Format.{Format}
use Rattle.g_entry.specs.Formats.{format_number}
use Rattle.g_dirs.specs.declared.dirs.Dirs.{Dirs}
use Rattle.g_dirs.specs.Directory.{all_places, entries_of}
use Rattle.g_incr.specs.Layout.{Dump}
use Rattle.g_lines.specs.Lines.{ended, text_of}
use Rattle.g_restore.specs.declared.dumps.Found.{Found}
use Rattle.g_restore.specs.KnownDumps.{Known, known}
use Rattle.g_look.specs.Text.{holder_text, intent_lines, told}

-- The line of a dump, by its records.
abbrev pub known_line : Known → List ℕ
known_line k =
    told (codes "DUMP ") k.note.number ++ told (codes " TAPE ") k.serial ++ told (codes " AT ") k.note.place ++ told (codes " BLOCKS ") (k.note.count + 2)
    ++ told (codes " USERS ") k.note.users ++ told (codes " FILES ") k.note.files ++ told (codes " CONTENT ") (k.note.count - (k.note.users + k.note.files))
    ++ told (codes " NEXT ") k.note.next_stamp ++ codes " HOLDS" ++ flat_map (holder_text k.users) k.held

-- The dumps of a reel.
abbrev pub on_reel : ℕ → List Known → List Known
on_reel serial ks = filter (λ k. k.serial == serial) ks

-- The lines of a reel's dumps.
abbrev pub lines_on : ℕ → List Found → List (List ℕ)
lines_on serial found = map known_line (on_reel serial (map known found))

-- The number of a reel's dumps.
abbrev pub count_on : ℕ → List Found → ℕ
count_on serial found = length (on_reel serial (map known found))

-- A reel's line, by these numbers.
abbrev pub tape_text : ℕ → ℕ → ℕ → ℕ → ℕ → List ℕ
tape_text serial capacity len count end =
    told (codes "TAPE ") serial ++ told (codes " CAPACITY ") capacity ++ told (codes " LENGTH ") len ++ told (codes " DUMPS ") count
    ++ told (codes " END ") end ++ told (codes " FREE ") (capacity - end)

-- This is the dump that an intent names.
abbrev pub names_found : Intent → Found → Bool
names_found i f = (f.dir.note.number == i.number) && ((f.serial == i.serial) && (f.dir.note.place == i.place))

-- The text that says whether the intent's dump is completed.
abbrev pub state_text : Bool → List ℕ
state_text there = if there then codes " COMPLETED" else codes " NOT COMPLETED"

-- The number of blocks of all files.
abbrev pub used_by : List FileRec → List (ℕ × DiscCopy) → ℕ
used_by files online = length (all_places (entries_of files online))

-- The blocks of one file.
abbrev pub copy_blocks : Option DiscCopy → List ℕ
copy_blocks None = []
copy_blocks (Some copy) = copy.blocks

-- The line of a directory's counts.
abbrev pub counts_text : ℕ → Dirs → List ℕ
counts_text size dirs =
    ended (told (codes "USERS ") (length dirs.users.items) ++ told (codes " FILES ") (length dirs.files.items) ++ told (codes " BLOCKS ") (used_by dirs.files.items dirs.online.items)
    ++ told (codes " FREE ") (size - 2177 - used_by dirs.files.items dirs.online.items) ++ told (codes " NEXT ") dirs.head.next_stamp)

-- The text of a directory after the beginning of the first line.
abbrev pub dirs_text : ℕ → Format → List Dump → Dirs → List ℕ
dirs_text size format dumps dirs =
    ended (told (codes " FORMAT ") (format_number format)) ++ counts_text size dirs ++ ended (told (codes "LAST DUMP ") dirs.head.last_dump)
    ++ text_of (intent_lines dumps dirs.head.intent)
