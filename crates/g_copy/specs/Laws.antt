-- What an unchanged copy area preserves.
use Rattle.std.specs.Prelude.{◌≡◌, ℕ, List, All, drop}
use Rattle.g_blocks.specs.Pool.{IsInArea}
use Rattle.g_copy.specs.Copy.{bytes_at}

-- if all blocks from 2,177 on are unchanged, so are the bytes of every copy
abbrev pub CopiesStay : Type 0
CopiesStay = (size len : ℕ) (before after : List (List ℕ)) (places : List ℕ) → drop 2177 after ≡ drop 2177 before → All (IsInArea size) places
    → bytes_at places len after ≡ bytes_at places len before
