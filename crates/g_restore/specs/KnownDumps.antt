-- What is known of the dumps in memory: everything but their content.
use Rattle.std.specs.Prelude.{◌≡◌, ℕ, List, map, All}
use Rattle.g_entry.specs.declared.file_rec.FileRec.{FileRec}
use Rattle.g_entry.specs.declared.user_rec.UserRec.{UserRec}
use Rattle.g_incr.specs.declared.note.DumpNote.{DumpNote}
use Rattle.g_incr.specs.Layout.{Dump, IsDump}
use Rattle.g_shelf.specs.FoundDumps.{note_of}
use Rattle.g_restore.specs.declared.dumps.Found.{Found}

-- A dump without its content.
pub record Known : Type 0 where
  pub serial : ℕ
  pub note : DumpNote
  pub users : List UserRec
  pub held : List ℕ
  pub files : List FileRec

-- What is known of a dump.
abbrev pub known_of : Dump → Known
known_of d = record { serial = d.serial; note = note_of d; users = d.users; held = d.held; files = d.files }

-- What memory has of a dump.
abbrev pub known : Found → Known
known f = record { serial = f.serial; note = f.dir.note; users = f.dir.users.items; held = f.dir.held.items; files = f.dir.files.items }

-- The dumps that are in memory, in their order.
pub record AreKnown (found : List Found) (dumps : List Dump) : Type 0 where
  pub same : map known found ≡ map known_of dumps
  pub rules : All IsDump dumps
