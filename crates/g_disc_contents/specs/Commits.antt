-- The number of blocks that a commit writes: the slot blocks whose cached content isn't the new one, and the gate.
use Rattle.std.specs.Prelude.{◌≡◌, ℕ, zero, suc, ◌+◌}
use Rattle.g_slots.specs.Layout.{other}
use Rattle.g_dirs.specs.Pages.{RemembersAll, pages_of, unwritten}
use Rattle.g_disc_contents.specs.Facts.{Layout}

-- One commit, which writes n blocks: afterwards the other slot is current. It holds the new directory, all of whose
-- blocks are cached.
pub record Committed (old new : Layout) (n : ℕ) : Type 0 where
  pub side : new.side ≡ other old.side
  pub written : n ≡ unwritten new.directory (pages_of new.side old.pages) 1088 + 1
  pub here : RemembersAll new.directory (pages_of new.side new.pages)
  pub there : pages_of old.side new.pages ≡ pages_of old.side old.pages

-- A number of commits in a row, which write n blocks in all.
abbrev pub Commits : ℕ → Layout → Layout → ℕ → Type 0
Commits zero old new n = (new ≡ old) × (n ≡ 0)
Commits (suc k) old new n = (mid : Layout) × (a : ℕ) × (b : ℕ) × Committed old mid a × Commits k mid new b × (n ≡ a + b)
