-- What a catalogue shows: the dumps of a reel, and whether the bytes of a file are there.
use Rattle.std.specs.Prelude.{◌≡◌, ℕ, ◌==◌, false, List, [], ◌∷◌, map, take, All, Contains, Some, slice_get, if◌then◌else◌}
use Rattle.g_base.specs.Block.{blocks_for}
use Rattle.g_entry.specs.declared.file_rec.FileRec.{FileRec}
use Rattle.g_entry.specs.declared.file_rec.TapeCopy.{TapeCopy}
use Rattle.g_plain.specs.declared.faults.StoreFault.{StoreFault}
use Rattle.g_plain.specs.declared.faults.StoreFault.TheVariants.{NoCopy}
use Rattle.g_tree.specs.Records.{full_of}
use Rattle.g_disc_contents.specs.Contents.{File}
use Rattle.g_disc_contents.specs.Facts.{OnlineFacts}
use Rattle.g_incr.specs.declared.note.DumpNote.{DumpNote}
use Rattle.g_incr.specs.Layout.{Dump}
use Rattle.g_shelf.specs.declared.rack.Listed.{Listed}
use Rattle.g_shelf.specs.FoundDumps.{AreInRow, note_of}
use Rattle.g_shelf.specs.HeldBlocks.{AreHeld}

-- The notes of the reel with this serial.
abbrev pub notes_at : ℕ → List Listed → List DumpNote
notes_at serial [] = []
notes_at serial (l ∷ ls) = if l.serial == serial then l.notes else notes_at serial ls

-- The copy lies in the dumps of these notes.
abbrev pub IsNoted : List Listed → TapeCopy → ℕ → Type 0
IsNoted lists copy blocks = (dumps : List Dump) → notes_at copy.serial lists ≡ map note_of dumps → AreInRow copy.serial 0 0 dumps → AreHeld dumps copy blocks

-- The copy doesn't lie in the dumps of these notes.
abbrev pub IsMissing : List Listed → TapeCopy → ℕ → Type 0
IsMissing lists copy blocks = (dumps : List Dump) → notes_at copy.serial lists ≡ map note_of dumps → AreInRow copy.serial 0 0 dumps → AreHeld dumps copy blocks → ⊥

-- The record is that of a file.
abbrev pub IsOfFile : OnlineFacts → FileRec → Type 0
IsOfFile o r = (f : File) × Contains o.contents.files f × (f.rec ≡ r)

-- If a file of this record isn't on the disc, its copy exists.
pub record IsThere (o : OnlineFacts) (lists : List Listed) (r : FileRec) : Type 0 where
  pub there : (f : File) → Contains o.contents.files f → f.rec ≡ r → f.online ≡ false → (copy : TapeCopy) × (r.tape ≡ Some copy) × IsNoted lists copy (blocks_for r.len)

-- The file isn't on the disc, and its copy doesn't exist.
pub record IsLost (o : OnlineFacts) (lists : List Listed) (r : FileRec) : Type 0 where
  pub offline : (f : File) → Contains o.contents.files f → f.rec ≡ r → f.online ≡ false
  pub missing : (copy : TapeCopy) → r.tape ≡ Some copy → IsMissing lists copy (blocks_for r.len)

-- The first of these files that is lost, and the fault that reports it.
pub record IsLostIn (o : OnlineFacts) (lists : List Listed) (files : List FileRec) (fault : StoreFault) : Type 0 where
  pub place : ℕ
  pub file : FileRec
  pub at : slice_get files place ≡ Some file
  pub lost : IsLost o lists file
  pub before : All (IsThere o lists) (take place files)
  pub copy : TapeCopy
  pub tape : file.tape ≡ Some copy
  pub fault_is : fault ≡ NoCopy (full_of o.contents.users file) copy.serial
