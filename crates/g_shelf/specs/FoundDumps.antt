-- What a reader finds on a reel: consecutive dumps, which are the completed ones if the reel exposes its blocks.
use Rattle.std.specs.Prelude.{◌≡◌, ℕ, ◌+◌, ◌≤◌, List, [], ◌∷◌, All, length}
use Rattle.std.specs.Option.{ForSome}
use Rattle.g_tape.specs.Rack.{Rack, reel}
use Rattle.g_tape.specs.Reads.{blocks_of}
use Rattle.g_incr.specs.declared.note.DumpNote.{DumpNote}
use Rattle.g_incr.specs.Layout.{Dump, IsDump, count_of, ends}
use Rattle.g_incr.specs.Reading.{HasReadDump}
use Rattle.g_shelf.specs.CompletedDumps.{AreCompleted, end_of}

-- The note of a dump.
abbrev pub note_of : Dump → DumpNote
note_of d = record {
  number = d.number;
  place = d.place;
  count = count_of d;
  users = length d.users;
  files = length d.files;
  next_stamp = d.next;
}

-- The dump belongs to this reel, begins at block `at`, satisfies the rules, and its number is at least `from`.
pub record Follows (serial at from : ℕ) (d : Dump) : Type 0 where
  pub on : d.serial ≡ serial
  pub place : d.place ≡ at
  pub number : from ≤ d.number
  pub rules : IsDump d

-- The dumps follow one another from block `at` on, with increasing numbers.
abbrev pub AreInRow : ℕ → ℕ → ℕ → List Dump → Type 0
AreInRow serial at from [] = Unit {0}
AreInRow serial at from (d ∷ ds) = Follows serial at from d × AreInRow serial (ends d) (d.number + 1) ds

-- The dumps that were read on a reel, from its first block on: they are the completed ones if the reel exposes its blocks,
-- and end on the reel in any case.
pub record AreRead (serial : ℕ) (dumps : List Dump) (old new : Rack) : Type 0 where
  pub row : AreInRow serial 0 0 dumps
  pub completed : ForSome (blocks_of serial old) (λ blocks. AreCompleted serial blocks dumps)
  pub fits : ForSome (reel serial old.reels) (λ r. end_of dumps ≤ r.len)
  pub read : All (λ d. HasReadDump serial (note_of d) old new) dumps
