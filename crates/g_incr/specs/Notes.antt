-- Descriptions of a dump on a reel.
use Rattle.std.specs.Prelude.{◌≡◌, ◌+◌, ◌^◌, ◌<◌, ◌≤◌, length}
use Rattle.g_incr.specs.declared.note.DumpDir.{DumpDir}
use Rattle.g_incr.specs.declared.note.DumpNote.{DumpNote}
use Rattle.g_incr.specs.declared.note.Header.{Header}
use Rattle.g_incr.specs.Layout.{Dump, count_of}

-- The note describes the dump: its number, place, counts and next stamp.
pub record IsNoteOf (d : Dump) (n : DumpNote) : Type 0 where
  pub number : n.number ≡ d.number
  pub place : n.place ≡ d.place
  pub count : n.count ≡ count_of d
  pub users : n.users ≡ length d.users
  pub files : n.files ≡ length d.files
  pub next_stamp : n.next_stamp ≡ d.next

-- The directory has exactly the records of the dump.
pub record IsDirOf (d : Dump) (dir : DumpDir) : Type 0 where
  pub note : IsNoteOf d dir.note
  pub users : dir.users.items ≡ d.users
  pub held : dir.held.items ≡ d.held
  pub files : dir.files.items ≡ d.files

-- The header describes the dump: a note of it, and its format.
pub record IsHeaderOf (d : Dump) (h : Header) : Type 0 where
  pub format : h.format ≡ d.format
  pub note : IsNoteOf d h.note

-- The numbers of the note are within the limits of a dump.
pub record IsInLimits (n : DumpNote) : Type 0 where
  pub number : n.number < 2 ^ 62
  pub first : 1 ≤ n.next_stamp
  pub last : n.next_stamp ≤ 2 ^ 62
  pub users : n.users ≤ 63
  pub files : n.files ≤ 1024
  pub count : n.users + n.files ≤ n.count
