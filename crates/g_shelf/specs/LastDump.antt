-- The last dump of a rack: the completed dump with the greatest number on any of its reels.
use Rattle.std.specs.Prelude.{◌≡◌, ℕ, ◌<◌, ◌≤◌, not, List, [], All, Contains, find, Option, option_map}
use Rattle.std.specs.Option.{ForSome}
use Rattle.g_tape.specs.Reel.{Reel}
use Rattle.g_incr.specs.declared.note.DumpNote.{DumpNote}
use Rattle.g_incr.specs.Layout.{Dump, IsDump, ends}
use Rattle.g_shelf.specs.CompletedDumps.{AreCompleted}
use Rattle.g_shelf.specs.FoundDumps.{note_of}

-- The serial of the first reel that isn't mounted.
abbrev pub first_unmounted : List Reel → Option ℕ
first_unmounted reels = option_map (λ r. r.serial) (find (λ r. not r.mounted) reels)

-- The completed dumps of the reel satisfy P, if it exposes its blocks.
abbrev pub HasDumps : (List Dump → Type 0) → Reel → Type 0
HasDumps P r = ForSome r.blocks (λ blocks. (dumps : List Dump) × AreCompleted r.serial blocks dumps × P dumps)

-- The numbers of all completed dumps of the reel are at most n, if it exposes its blocks.
abbrev pub HasUpTo : ℕ → Reel → Type 0
HasUpTo n r = HasDumps (All (λ d. d.number ≤ n)) r

-- The numbers of all completed dumps of the reel are less than n, if it exposes its blocks.
abbrev pub HasBelow : ℕ → Reel → Type 0
HasBelow n r = HasDumps (All (λ d. d.number < n)) r

-- No reel that exposes its blocks has a completed dump.
abbrev pub HaveNone : List Reel → Type 0
HaveNone reels = All (HasDumps (λ dumps. dumps ≡ [])) reels

-- The dump of this note is completed on the reel with this serial. No dump on any reel has a greater number, and none on an
-- earlier reel has the same number.
pub record IsLast (reels : List Reel) (serial : ℕ) (note : DumpNote) : Type 0 where
  pub dump : Dump
  pub rules : IsDump dump
  pub on : dump.serial ≡ serial
  pub note_is : note ≡ note_of dump
  pub at : Reel
  pub there : Contains reels at
  pub serial_is : at.serial ≡ serial
  pub completed : HasDumps (λ dumps. Contains dumps dump) at
  pub fits : ends dump ≤ at.len
  pub greatest : All (HasUpTo dump.number) reels
  pub first : All (λ r. r.serial < serial → HasBelow dump.number r) reels
