-- The number of commits can be determined: each switches the slots, and each writes its gate.
use Rattle.std.specs.Prelude.{◌≡◌, ℕ, zero, suc, ◌+◌, ◌^◌, ◌<◌, ◌≤◌}
use Rattle.g_slots.specs.declared.side.Side.{Side}
use Rattle.g_slots.specs.Layout.{other}
use Rattle.g_disc_contents.specs.Commits.{Commits}
use Rattle.g_disc_contents.specs.Facts.{Layout}
use Rattle.g_store_meaning.specs.Answers.{WroteCommits}
use Rattle.g_store_meaning.specs.StoreInvariant.{StoreFacts}

-- The current slot after this many commits.
abbrev pub side_after : ℕ → Side → Side
side_after zero side = side
side_after (suc k) side = side_after k (other side)

-- The slot that is current after n commits is that of `side_after`. They write at least n blocks, an event that made n
-- hasn't made n + 1, and each is counted as a write of the disc.
pub record CommitsAreTold : Type 0 where
  pub sides : (k n : ℕ) (old new : Layout) → Commits k old new n → new.side ≡ side_after k old.side
  pub gates : (k n : ℕ) (old new : Layout) → Commits k old new n → k ≤ n
  -- No event has made both k and k + 1 commits: an opening of a dump that commits twice isn't one that commits once, nor is
  -- a mount that commits one that doesn't.
  pub one_more : (k : ℕ) (old new : StoreFacts) → WroteCommits k old new → WroteCommits (suc k) old new → ⊥
  -- each commit is a counted write of the disc, unless the count saturates
  pub writes : (k : ℕ) (old new : StoreFacts) → (wrote : WroteCommits k old new) → old.online.disc.writes + wrote.blocks < 2 ^ 64
      → old.online.disc.writes + k ≤ new.online.disc.writes
