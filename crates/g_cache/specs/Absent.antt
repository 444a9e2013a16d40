-- Which blocks are known not to be cached.
use Rattle.std.specs.Prelude.{◌≡◌, ℕ, ◌%◌, ◌==◌, Bool, true, false, List, Option, Some, None, slice_index_or}
use Rattle.g_cache.specs.CachedDisc.{kept_block}

-- block k is noted, at the index of its remainder
abbrev pub is_noted : List (Option ℕ) → ℕ → Bool
is_noted numbers k = elim (slice_index_or numbers (k % 67) None) [ Some j ↦ j == k | None ↦ false ]

-- no noted block is cached
abbrev pub AreAbsent : List (Option ℕ) → List (ℕ × List ℕ) → Type 0
AreAbsent numbers kept = (k : ℕ) → is_noted numbers k ≡ true → kept_block k kept ≡ None
