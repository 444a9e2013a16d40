-- What is known of a reel: notes of completed dumps, from its first block on, which were read earlier or in the current
-- call.
use Rattle.std.specs.Prelude.{◌≡◌, ◌⊎◌, ℕ, ◌+◌, ◌<◌, ◌≤◌, ◌==◌, true, List, [], ◌∷◌, ◌++◌, All, length, map, Option, OnOk, Result, slice_index_or, slice_set, if◌then◌else◌}
use Rattle.std.specs.Option.{ForSome}
use Rattle.g_tape.specs.Rack.{Rack, is_mounted, reel}
use Rattle.g_tape.specs.Reads.{blocks_in, blocks_of}
use Rattle.g_tape.specs.Reel.{Reel}
use Rattle.g_incr.specs.declared.note.DumpNote.{DumpNote}
use Rattle.g_incr.specs.declared.fault.ShelfFault.{ShelfFault}
use Rattle.g_incr.specs.Layout.{Dump, StandsOn}
use Rattle.g_incr.specs.Reading.{ReadsReel}
use Rattle.g_shelf.specs.declared.rack.Listed.{Listed}
use Rattle.g_shelf.specs.CompletedDumps.{AreCompleted, end_of}
use Rattle.g_shelf.specs.FoundDumps.{AreInRow, note_of}
use Rattle.g_known.specs.declared.lists.NotedReel.{NotedReel}

-- The block after the dumps of these notes.
abbrev pub end_in : ℕ → List DumpNote → ℕ
end_in at [] = at
end_in at (n ∷ ns) = end_in (n.place + (n.count + 2)) ns

-- The least number that a dump after those of these notes may have.
abbrev pub number_in : ℕ → List DumpNote → ℕ
number_in from [] = from
number_in from (n ∷ ns) = number_in (n.number + 1) ns

-- The first dumps of a reel: they are complete and follow one another from its first block on, with increasing numbers. The
-- reel may have more.
pub record AreFirst (o : Option Reel) (serial : ℕ) (notes : List DumpNote) : Type 0 where
  pub dumps : List Dump
  pub notes_are : notes ≡ map note_of dumps
  pub row : AreInRow serial 0 0 dumps
  pub stand : ForSome (blocks_in o) (λ blocks. All (StandsOn blocks) dumps)
  pub fits : ForSome o (λ r. end_of dumps ≤ r.len)
  pub low : end_of dumps ≤ 65536

-- All dumps of the reel: the completed ones, if it exposes its blocks. They end on the reel in any case.
pub record AreFound (serial : ℕ) (dumps : List Dump) (rack : Rack) : Type 0 where
  pub row : AreInRow serial 0 0 dumps
  pub completed : ForSome (blocks_of serial rack) (λ blocks. AreCompleted serial blocks dumps)
  pub fits : ForSome (reel serial rack.reels) (λ r. end_of dumps ≤ r.len)

-- These are the notes of all dumps of the reel.
pub record IsNoted (serial : ℕ) (rack : Rack) (notes : List DumpNote) : Type 0 where
  pub dumps : List Dump
  pub found : AreFound serial dumps rack
  pub notes_are : notes ≡ map note_of dumps

-- The notes remembered of a reel are those of its first dumps. The reel is mounted, unless nothing is remembered of it.
pub record IsKnown (rack : Rack) (serial : ℕ) (notes : List DumpNote) : Type 0 where
  pub first : AreFirst (reel serial rack.reels) serial notes
  pub mounted : (notes ≡ []) ⊎ (is_mounted (reel serial rack.reels) ≡ true)

-- The notes that the lists have of the reel.
abbrev pub noted : ℕ → List NotedReel → List DumpNote
noted serial [] = []
noted serial (l ∷ ls) = if serial == l.serial then l.notes.items else noted serial ls

-- What is remembered is valid for each reel.
abbrev pub AreKnown : Rack → List NotedReel → Type 0
AreKnown rack lists = (serial : ℕ) → IsKnown rack serial (noted serial lists)

-- What is remembered of the other reels is unchanged.
abbrev pub OthersStay : ℕ → List NotedReel → List NotedReel → Type 0
OthersStay serial old new = (other : ℕ) → (other ≡ serial → ⊥) → noted other new ≡ noted other old

-- Nothing is remembered of this reel any more. The others are unchanged.
pub record HasForgotten (serial : ℕ) (old new : List NotedReel) : Type 0 where
  pub none : noted serial new ≡ []
  pub others : OthersStay serial old new

-- The notes were kept, and possibly more were appended.
abbrev pub GoesOn : List DumpNote → List DumpNote → Type 0
GoesOn old new = (more : List DumpNote) × (new ≡ old ++ more)

-- Possibly more is remembered of this reel. The others are unchanged.
pub record HasReadOn (serial : ℕ) (old new : List NotedReel) : Type 0 where
  pub more : GoesOn (noted serial old) (noted serial new)
  pub others : OthersStay serial old new

-- A query about a reel reads on after what is remembered of it. If it succeeds, all completed dumps of the reel are
-- remembered.
pub record Fills (serial : ℕ) (result : Result (Unit {0}) ShelfFault) (old : Rack) (lists : List NotedReel) (new : Rack) (new_lists : List NotedReel) : Type 0 where
  pub reads : ReadsReel serial result old new
  pub noted : OnOk result (IsNoted serial old (noted serial new_lists))
  pub known : AreKnown new new_lists
  pub more : HasReadOn serial lists new_lists

-- A write of block k keeps what is remembered if that ends at block k or before it; otherwise the reel is forgotten.
-- The others are unchanged.
pub record HasWritten (serial k : ℕ) (old new : List NotedReel) : Type 0 where
  pub stays : end_in 0 (noted serial old) ≤ k → noted serial new ≡ noted serial old
  pub forgets : k < end_in 0 (noted serial old) → noted serial new ≡ []
  pub others : OthersStay serial old new

-- No list belongs to the reel.
abbrev pub HasNone : ℕ → List NotedReel → Type 0
HasNone serial lists = (i : ℕ) (d : NotedReel) → i < length lists → (slice_index_or lists i d).serial ≡ serial → ⊥

-- The reel's list is at this position, and changing it changes what is remembered of this reel only.
pub record IsPlaceIn (serial : ℕ) (lists : List NotedReel) (i : ℕ) : Type 0 where
  pub within : i < length lists
  pub named : (d : NotedReel) → (slice_index_or lists i d).serial ≡ serial
  pub there : (d : NotedReel) → noted serial lists ≡ (slice_index_or lists i d).notes.items
  pub change : (new : NotedReel) → new.serial ≡ serial → noted serial (slice_set lists i new) ≡ new.notes.items
  pub others : (new : NotedReel) → new.serial ≡ serial → OthersStay serial lists (slice_set lists i new)

-- The list is the catalogue of one reel: the notes of all its dumps.
abbrev pub IsListed : Rack → Listed → Type 0
IsListed rack list = IsNoted list.serial rack list.notes

-- The catalogue of a rack: a list for each reel, in their order.
pub record AreListed (rack : Rack) (lists : List Listed) : Type 0 where
  pub serials : map (λ l. l.serial) lists ≡ map (λ r. r.serial) rack.reels
  pub each : All (IsListed rack) lists
