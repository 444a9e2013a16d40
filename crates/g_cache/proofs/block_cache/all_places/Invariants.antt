-- The places so far, counted from 0.
use Rattle.std.proofs.Common.{◌≡◌, ◌<◌, ℕ, length, get_or}
use Rattle.g_cache.proofs.block_cache.all_places.Given as goal

abbrev pub invariant-loop-place : goal.invariant-loop-place
invariant-loop-place l = (length l.places.items ≡ l.place) × ((k d : ℕ) → k < l.place → get_or l.places.items k d ≡ k)
