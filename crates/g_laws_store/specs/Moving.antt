-- What happens to completed dumps when reels may be released. A reel keeps its dumps, possibly followed by more. Otherwise
-- they are gone, and a newer dump exists that holds the directory of each of its users.
use Rattle.std.specs.Prelude.{◌≡◌, ◌⊎◌, ℕ, ◌<◌, true, List, ◌++◌, map, All, Contains}
use Rattle.g_tape.specs.Reel.{Reel}
use Rattle.g_tape.specs.Rack.{Rack}
use Rattle.g_incr.specs.Layout.{Dump, holds}
use Rattle.g_shelf.specs.CompletedDumps.{AreShelved, all_dumps}
use Rattle.g_store_meaning.specs.Meaning.{told_reels}

-- The new dumps are the old ones, possibly followed by more.
abbrev pub AreKept : List Dump → List Dump → Type 0
AreKept old new = (more : List Dump) × (new ≡ old ++ more)

-- A newer dump holds the directories of all its users.
pub record IsReplaced (next : ℕ → List Dump) (reels : List Reel) (dumps : List Dump) : Type 0 where
  pub whole : Dump
  pub there : Contains (all_dumps next reels) whole
  pub held : All (λ u. holds whole.held u.number ≡ true) whole.users
  pub newer : All (λ d. d.number < whole.number) dumps

-- For each reel, its dumps are preserved, or a newer dump replaces them.
abbrev pub AreMoved : (ℕ → List Dump) → (ℕ → List Dump) → List Reel → Type 0
AreMoved shelf next reels = (serial : ℕ) → AreKept (shelf serial) (next serial) ⊎ IsReplaced next reels (shelf serial)

-- For all dumps that were completed on the old rack.
pub record DumpsMove (old new : Rack) : Type 0 where
  pub move : (shelf : ℕ → List Dump) → AreShelved shelf (told_reels old) → (next : ℕ → List Dump) × AreShelved next (told_reels new) × AreMoved shelf next (told_reels new)

-- The exposed reels have the same serials, in the same order.
abbrev pub HasSameReels : Rack → Rack → Type 0
HasSameReels old new = map (λ r. r.serial) (told_reels new) ≡ map (λ r. r.serial) (told_reels old)

-- Appending dumps is a move of completed dumps, and so are two moves in succession.
pub record MovingGoesOn : Type 0 where
  -- dumps have moved if others were only appended
  pub grown : (old new : Rack) → ((shelf : ℕ → List Dump) → AreShelved shelf (told_reels old) → (more : ℕ → List Dump) × AreShelved (λ s. shelf s ++ more s) (told_reels new)) → DumpsMove old new
  -- two moves in succession are a move
  pub again : (a b c : Rack) → HasSameReels b c → DumpsMove a b → DumpsMove b c → DumpsMove a c
