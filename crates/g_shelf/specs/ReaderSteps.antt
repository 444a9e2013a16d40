-- The steps of the readers: the later of two dumps, and whether a dump has a file's blocks.
use Rattle.std.specs.Prelude.{ℕ, ◌+◌, ◌≤◌, nat_lt, List, Contains, Option, Some, None, if◌then◌else◌}
use Rattle.g_incr.specs.declared.note.DumpNote.{DumpNote}

-- The last dump of the reels so far, after a reel with this last dump: the one with the greater number, or the earlier
-- reel's if they are equal.
abbrev pub later : Option (ℕ × DumpNote) → ℕ → Option DumpNote → Option (ℕ × DumpNote)
later last serial None = last
later None serial (Some note) = Some (serial, note)
later (Some last) serial (Some note) = if nat_lt last.1.number note.number then Some (serial, note) else Some last

-- The dump's content has all these blocks.
pub record Holds (note : DumpNote) (first blocks : ℕ) : Type 0 where
  pub from : note.place + 1 + note.users + note.files ≤ first
  pub to : first + blocks ≤ note.place + 1 + note.count

-- The content of one of the dumps has all these blocks.
pub record AnyHolds (notes : List DumpNote) (first blocks : ℕ) : Type 0 where
  pub note : DumpNote
  pub there : Contains notes note
  pub holds : Holds note first blocks
