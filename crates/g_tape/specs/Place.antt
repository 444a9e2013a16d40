-- The place of a reel in a list of reels.
use Rattle.std.specs.Prelude.{◌≡◌, ℕ, ◌<◌, List, Some, length, slice_index_or, slice_set}
use Rattle.g_tape.specs.Reel.{Reel}
use Rattle.g_tape.specs.Rack.{reel, with_reel}

-- The reel with this serial is at place i, and changing it changes the item at that place.
pub record IsPlaceOf (s : ℕ) (reels : List Reel) (i : ℕ) : Type 0 where
  pub within : i < length reels
  pub there : (d : Reel) → reel s reels ≡ Some (slice_index_or reels i d)
  pub change : (f : Reel → Reel) (d : Reel) → with_reel s f reels ≡ slice_set reels i (f (slice_index_or reels i d))
