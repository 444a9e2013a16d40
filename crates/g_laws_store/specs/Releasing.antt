-- Reels are released: once one dump holds all directories and all bytes, the dumps of the other reels may be deleted.
use Rattle.std.specs.Prelude.{◌≡◌, ℕ, ◌==◌, true, List, [], ◌∷◌, All, Contains, None, if◌then◌else◌}
use Rattle.g_tape.specs.Reel.{Reel}
use Rattle.g_incr.specs.Layout.{Dump, holds}
use Rattle.g_shelf.specs.CompletedDumps.{AreCompleted}
use Rattle.g_store_meaning.specs.Belonging.{KeepsFile, KeepsRecord}
use Rattle.g_store_meaning.specs.Meaning.{told_reels}
use Rattle.g_store_meaning.specs.StoreInvariant.{IsUp, StoreFacts}
use Rattle.std.specs.Prelude.{◌≤◌, length}

-- The completed dumps without those of a reel.
abbrev pub without_reel : ℕ → (ℕ → List Dump) → ℕ → List Dump
without_reel serial shelf n = if n == serial then [] else shelf n

-- One dump has everything: it is the last one and holds every directory. Its own records and those on the disc name only
-- copies in its content.
pub record HasAll (text : ℕ → List ℕ) (shelf : ℕ → List Dump) (s : StoreFacts) (d : Dump) : Type 0 where
  pub reel : Reel
  pub among : Contains (told_reels s.rack) reel
  pub on : Contains (shelf reel.serial) d
  pub last : d.number ≡ s.online.contents.head.last_dump
  pub users : d.users ≡ s.online.contents.users
  pub held : All (λ u. holds d.held u.number ≡ true) d.users
  pub records : All (λ r. KeepsRecord (text r.stamp) (d ∷ []) r) d.files
  pub files : All (λ f. KeepsFile (text f.rec.stamp) (d ∷ []) f) s.online.contents.files

-- If one dump has everything, the dumps of another reel may be deleted, and that dump still has everything.
pub record ReleasesStayUp : Type 0 where
  -- without the dumps of another reel the invariant of a store that is up still holds
  pub up : (text : ℕ → List ℕ) (shelf : ℕ → List Dump) (s : StoreFacts) (d : Dump) (serial : ℕ) (has : HasAll text shelf s d) → (has.reel.serial ≡ serial → ⊥)
      → s.dump ≡ None → s.online.contents.head.intent ≡ None → IsUp text shelf s → IsUp text (without_reel serial shelf) s
  -- that dump still has everything, so the next reel may be released
  pub still : (text : ℕ → List ℕ) (shelf : ℕ → List Dump) (s : StoreFacts) (d : Dump) (serial : ℕ) (has : HasAll text shelf s d) → (has.reel.serial ≡ serial → ⊥)
      → HasAll text (without_reel serial shelf) s d

-- A reel of at most one block, for any content of it, has no completed dump.
abbrev pub OneBlockIsNone : Type 0
OneBlockIsNone = (serial : ℕ) (reel : List (List ℕ)) → length reel ≤ 1 → AreCompleted serial reel []
