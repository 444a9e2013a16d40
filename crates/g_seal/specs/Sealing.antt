-- What a seal contains: the completed dumps of a rack and the files of a disc, each with the sum of its bytes.
use Rattle.std.specs.Prelude.{◌≡◌, ℕ, ◌*◌, ◌+◌, ◌≤◌, List, [], map, take, drop, Contains, Option, Some, None, is_some}
use Rattle.sha2.specs.Sha256.{sha256}
use Rattle.g_base.specs.Block.{blocks_for}
use Rattle.g_copy.specs.Copy.{bytes_at}
use Rattle.g_copy.specs.declared.copy.DiscCopy.{DiscCopy}
use Rattle.g_entry.specs.declared.file_rec.FileRec.{FileRec}
use Rattle.g_entry.specs.declared.file_rec.TapeCopy.{TapeCopy}
use Rattle.g_entry.specs.declared.format.Format.{Format}
use Rattle.g_entry.specs.declared.user_rec.UserRec.{UserRec}
use Rattle.g_dirs.specs.Directory.{Directory, FileEntry}
use Rattle.g_dirs.specs.Image.{StandsFor}
use Rattle.g_tape.specs.Rack.{reel}
use Rattle.g_tape.specs.Reads.{blocks_in}
use Rattle.g_tape.specs.Reel.{Reel}
use Rattle.g_tree.specs.Records.{full_of}
use Rattle.g_incr.specs.Layout.{Dump, size_of}
use Rattle.g_shelf.specs.CompletedDumps.{AreShelved, all_dumps}
use Rattle.g_store_meaning.specs.Meaning.{joined}
use Rattle.g_look.specs.declared.fault.LookFault.{LookFault}
use Rattle.g_look.specs.declared.fault.LookFault.TheVariants.{DiscUnread, TapeUnread, NoCopy, NoMemory}
use Rattle.g_look.specs.Text.{IsFoundOn}
use Rattle.g_seal.specs.declared.entries.SealedDump.{SealedDump}
use Rattle.g_seal.specs.declared.entries.SealedFile.{SealedFile}
use Rattle.g_seal.specs.SealText.{sealed_text}

-- `len` bytes from block `first` on; nothing if the blocks aren't exposed.
abbrev pub bytes_from : ℕ → ℕ → Option (List (List ℕ)) → List ℕ
bytes_from first len None = []
bytes_from first len (Some blocks) = take len (joined (take (blocks_for len) (drop first blocks)))

-- THE BYTES ON A REEL from the copy's block on, as far as the reel has them; none if the rack doesn't have the reel.
abbrev pub bytes_on : List Reel → TapeCopy → ℕ → List ℕ
bytes_on reels copy len = bytes_from copy.first len (blocks_in (reel copy.serial reels))

-- The reel is in the rack, and has all blocks of the copy.
pub record HasAll (reels : List Reel) (copy : TapeCopy) (len : ℕ) : Type 0 where
  pub one : Reel
  pub there : reel copy.serial reels ≡ Some one
  pub long : copy.first + blocks_for len ≤ one.len

-- The faults with which the sum of bytes on tape may fail.
abbrev pub IsOfTape : LookFault → Type 0
IsOfTape NoCopy = Unit {0}
IsOfTape TapeUnread = Unit {0}
IsOfTape NoMemory = Unit {0}
IsOfTape fault = ⊥

-- The faults with which a seal may fail.
abbrev pub IsOfSeal : LookFault → Type 0
IsOfSeal DiscUnread = Unit {0}
IsOfSeal fault = IsOfTape fault

-- The faults with which a check against a seal may fail.
abbrev pub IsOfReport : LookFault → Type 0
IsOfReport DiscUnread = Unit {0}
IsOfReport TapeUnread = Unit {0}
IsOfReport NoMemory = Unit {0}
IsOfReport fault = ⊥

-- The place of a dump: its reel, and the block of its header.
abbrev pub dump_place : Dump → TapeCopy
dump_place d = record { serial = d.serial; first = d.place }

-- A DUMP in a seal, with the sum of its blocks from its header to its mark.
abbrev pub sealed_dump : List Reel → Dump → SealedDump
sealed_dump reels d = record {
  number = d.number;
  serial = d.serial;
  place = d.place;
  blocks = size_of d;
  sum = sha256 (bytes_on reels (dump_place d) (512 * size_of d));
}

-- The bytes of a file's copy on tape, if it has one.
abbrev pub taped_bytes : List Reel → Option TapeCopy → ℕ → List ℕ
taped_bytes reels None len = []
taped_bytes reels (Some copy) len = bytes_on reels copy len

-- THE BYTES OF A FILE: those on the disc if it is there, otherwise those on its reel.
abbrev pub bytes_of : List (List ℕ) → List Reel → FileRec → Option DiscCopy → List ℕ
bytes_of blocks reels r None = taped_bytes reels r.tape r.len
bytes_of blocks reels r (Some copy) = bytes_at copy.blocks copy.len blocks

-- The bytes of a file are neither on the disc nor on a reel of the rack.
pub record IsNowhere (reels : List Reel) (r : FileRec) (copy : Option DiscCopy) : Type 0 where
  pub offline : copy ≡ None
  pub gone : (c : TapeCopy) → r.tape ≡ Some c → HasAll reels c r.len → ⊥

-- A FILE in a seal, with the sum of its bytes.
abbrev pub sealed_file : List (List ℕ) → List Reel → List UserRec → FileEntry → SealedFile
sealed_file blocks reels users f = record {
  full = full_of users f.0;
  len = f.0.len;
  stamp = f.0.stamp;
  sum = sha256 (bytes_of blocks reels f.0 f.1);
  online = is_some f.1;
  tape = f.0.tape;
}

-- The files of what the disc holds, in the order of its directory; none if it holds no filestore.
abbrev pub sealed_files : List (List ℕ) → List Reel → Option (Format × Directory) → List SealedFile
sealed_files blocks reels None = []
sealed_files blocks reels (Some (format, d)) = map (sealed_file blocks reels d.users) d.files

-- THE SEAL OF DEVICES that expose their contents: the text with all completed dumps of the rack, and all files of the disc.
pub record IsSealed (held : Option (List (List ℕ))) (reels : List Reel) (text : List ℕ) : Type 0 where
  pub shelf : ℕ → List Dump
  pub shelved : AreShelved shelf reels
  pub blocks : List (List ℕ)
  pub is_told : held ≡ Some blocks
  pub found : Option (Format × Directory)
  pub found_is : IsFoundOn blocks found
  pub text_is : text ≡ sealed_text (map (sealed_dump reels) (all_dumps shelf reels)) (sealed_files blocks reels found)

-- A file of the disc has its bytes nowhere.
pub record HasLost (blocks : List (List ℕ)) (reels : List Reel) : Type 0 where
  pub directory : Directory
  pub stands : StandsFor blocks directory
  pub file : FileEntry
  pub there : Contains directory.files file
  pub nowhere : IsNowhere reels file.0 file.1

-- The same of what was read from the disc.
abbrev pub HasNowhere : List Reel → Option (Format × Directory) → Type 0
HasNowhere reels None = ⊥
HasNowhere reels (Some (format, d)) = (f : FileEntry) × Contains d.files f × IsNowhere reels f.0 f.1
