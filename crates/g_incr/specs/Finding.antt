-- The parts of a dump on a reel: its header, its mark and its records, as a reader finds them, and that it overlooks
-- none.
use Rattle.std.specs.Prelude.{◌≡◌, ℕ, ◌+◌, ◌^◌, ◌<◌, ◌≤◌, Bool, IsTrue, List, Option, Some, slice_get, take, drop}
use Rattle.std.specs.Option.{ForSome}
use Rattle.g_entry.specs.declared.file_rec.FileRec.{FileRec}
use Rattle.g_entry.specs.declared.user_rec.UserRec.{UserRec}
use Rattle.g_tape.specs.Rack.{Rack, reel}
use Rattle.g_tape.specs.Reads.{HasRead, blocks_of}
use Rattle.g_incr.specs.declared.note.DumpDir.{DumpDir}
use Rattle.g_incr.specs.declared.note.DumpNote.{DumpNote}
use Rattle.g_incr.specs.declared.note.Header.{Header}
use Rattle.g_incr.specs.Layout.{Dump, IsDump, header_block, mark_block}
use Rattle.g_incr.specs.Notes.{IsHeaderOf, IsInLimits, IsNoteOf}
use Rattle.g_incr.specs.Records.{HasRecords}

-- The block at this place is the header of every dump that h describes, and the numbers of h are within the limits.
pub record HasHeader (serial place : ℕ) (rack : Rack) (h : Header) : Type 0 where
  pub limits : IsInLimits h.note
  pub at : h.note.place ≡ place
  pub block : ForSome (blocks_of serial rack) (λ bs. (d : Dump) → IsHeaderOf d h → slice_get bs place ≡ Some (header_block d))

-- If the header of a dump is at this place, then the header that was found describes that dump.
abbrev pub FindsHeader : ℕ → ℕ → Rack → Option Header → Type 0
FindsHeader serial place rack found = ForSome (blocks_of serial rack) (λ bs. (d : Dump) → IsDump d → d.place ≡ place
    → slice_get bs place ≡ Some (header_block d) → (h : Header) × (found ≡ Some h) × IsHeaderOf d h)

-- The block of the mark, according to the note.
abbrev pub mark_at : DumpNote → ℕ
mark_at n = n.place + 1 + n.count

-- The mark of every dump that the note describes follows its content on the reel, and it was read.
pub record HasMark (serial : ℕ) (n : DumpNote) (old new : Rack) : Type 0 where
  pub low : mark_at n < 2 ^ 32
  pub fits : ForSome (reel serial old.reels) (λ r. mark_at n < r.len)
  pub block : ForSome (blocks_of serial old) (λ bs. (d : Dump) → IsNoteOf d n → slice_get bs (mark_at n) ≡ Some (mark_block d))
  pub read : HasRead serial (mark_at n) old new

-- If the mark of a dump that the note describes follows its content on the reel, then it was found.
abbrev pub FindsMark : ℕ → DumpNote → Rack → Bool → Type 0
FindsMark serial n rack found = ForSome (blocks_of serial rack) (λ bs. (d : Dump) → IsNoteOf d n
    → slice_get bs (mark_at n) ≡ Some (mark_block d) → IsTrue found)

-- The blocks between a header and the content.
abbrev pub record_blocks : DumpNote → List (List ℕ) → List (List ℕ)
record_blocks n bs = take (n.users + n.files) (drop (n.place + 1) bs)

-- The records after the header were read, and are those of a dump with this header.
pub record HoldsRecords (serial : ℕ) (h : Header) (old new : Rack) (dir : DumpDir) : Type 0 where
  pub note : dir.note ≡ h.note
  pub blocks : List (List ℕ)
  pub records : HasRecords serial h dir.users.items dir.held.items dir.files.items blocks
  pub told : ForSome (blocks_of serial old) (λ bs. blocks ≡ record_blocks h.note bs)
  pub read : (k : ℕ) → h.note.place + 1 ≤ k → k < h.note.place + 1 + h.note.users + h.note.files → HasRead serial k old new

-- The blocks after the header aren't the records of any dump with this header.
abbrev pub HasNoRecords : ℕ → Header → Rack → Type 0
HasNoRecords serial h rack = ForSome (blocks_of serial rack) (λ bs. (users : List UserRec) (held : List ℕ) (files : List FileRec)
    → HasRecords serial h users held files (record_blocks h.note bs) → ⊥)
