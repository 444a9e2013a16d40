-- For any store that the filestore belongs to: it preserves its invariant, and disc and rack still belong together.
use Rattle.std.specs.Prelude.{◌≡◌, false, not}
use Rattle.g_disc_contents.specs.Facts.{OnlineFacts}
use Rattle.g_store_meaning.specs.Answers.{Belongs, IsStore}
use Rattle.g_store_meaning.specs.StoreInvariant.{StoreFacts}

-- The store with this filestore in place of its own. It is spent once a write has failed.
abbrev pub with_online : OnlineFacts → StoreFacts → StoreFacts
with_online o s = record s { online = o; spent = not o.live }

-- A store with this filestore satisfies its invariant afterwards if it did before, and its disc and rack still belong
-- together.
pub record KeepsStore (old new : OnlineFacts) : Type 0 where
  pub store : (s : StoreFacts) → s.online ≡ old → s.spent ≡ false → IsStore s → IsStore (with_online new s)
  pub belongs : (s : StoreFacts) → s.online ≡ old → s.spent ≡ false → IsStore s → Belongs s → Belongs (with_online new s)
