-- The lines of a seal by what was read into memory.
use Rattle.std.specs.Prelude.{ℕ, ◌*◌, ◌+◌, ◌==◌, List, find, Option, option_map}
use Rattle.sha2.specs.Sha256.{sha256}
use Rattle.g_copy.specs.declared.copy.DiscCopy.{DiscCopy}
use Rattle.g_entry.specs.declared.file_rec.FileRec.{FileRec}
use Rattle.g_entry.specs.declared.file_rec.TapeCopy.{TapeCopy}
use Rattle.g_entry.specs.declared.user_rec.UserRec.{UserRec}
use Rattle.g_dirs.specs.Directory.{copy_at}
use Rattle.g_tape.specs.Reel.{Reel}
use Rattle.g_restore.specs.declared.dumps.Found.{Found}
use Rattle.g_restore.specs.KnownDumps.{Known, known}
use Rattle.g_seal.specs.declared.entries.SealedDump.{SealedDump}
use Rattle.g_seal.specs.declared.entries.SealedFile.{SealedFile}
use Rattle.g_seal.specs.declared.versions.FoundVersion.{FoundVersion}
use Rattle.g_seal.specs.Rotten.{Marks, found_version, version_lines}
use Rattle.g_seal.specs.Sealing.{bytes_on, sealed_file}
use Rattle.g_seal.specs.SealText.{dump_line, file_line}

-- The place of a dump by its records.
abbrev pub known_place : Known → TapeCopy
known_place k = record { serial = k.serial; first = k.note.place }

-- A dump in a seal, by its records.
abbrev pub known_dump : List Reel → Known → SealedDump
known_dump reels k = record {
  number = k.note.number;
  serial = k.serial;
  place = k.note.place;
  blocks = k.note.count + 2;
  sum = sha256 (bytes_on reels (known_place k) (512 * (k.note.count + 2)));
}

-- The line of a dump in memory.
abbrev pub found_line : List Reel → Found → List ℕ
found_line reels f = dump_line (known_dump reels (known f))

-- The line of a file, by its record and the copies on disc.
abbrev pub rec_line : List (List ℕ) → List Reel → List UserRec → List (ℕ × DiscCopy) → FileRec → List ℕ
rec_line blocks reels users online r = file_line (sealed_file blocks reels users (r, copy_at online r.number))

-- A sealed version as it is found, by the records and the copies on disc.
abbrev pub rec_version : List (List ℕ) → List Reel → Marks → List UserRec → List (ℕ × DiscCopy) → SealedFile → FileRec → FoundVersion
rec_version blocks reels marks users online s r = found_version blocks reels marks users s (r, copy_at online r.number)

-- The record with this stamp.
abbrev pub rec_of : List FileRec → ℕ → Option FileRec
rec_of files stamp = find (λ r. r.stamp == stamp) files

-- The lines of a sealed file, by the records and the copies on disc.
abbrev pub rec_lines : List (List ℕ) → List Reel → Marks → List UserRec → List (ℕ × DiscCopy) → List FileRec → SealedFile → List (List ℕ)
rec_lines blocks reels marks users online files s = version_lines (option_map (rec_version blocks reels marks users online s) (rec_of files s.stamp))
