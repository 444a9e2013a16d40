-- Blocks of the copy area.
-- serves: copies_stay
use Rattle.std.proofs.Common.{◌≡◌, ℕ, ◌+◌, ◌-◌, ◌≤◌, List, [], ◌∷◌, ◌++◌, take, drop, refl, sym, ◌∙◌, ap, arith}
use Rattle.std.specs.Prelude.{All, slice_index_or}
use Rattle.std.specs.List.{flat_map}
use Rattle.std.proofs.lemmas.List.{get_or-drop}
use Rattle.std.proofs.lemmas.List.Elements.{All-head, All-tail}
use Rattle.g_blocks.specs.Pool.{IsInArea}
use Rattle.g_copy.specs.Copy.{blocks_at, bytes_at}

-- a block of the copy area is read from it
same_block : (before after : List (List ℕ)) (k : ℕ) → drop 2177 after ≡ drop 2177 before → 2177 ≤ k → slice_index_or after k [] ≡ slice_index_or before k []
same_block before after k same high =
    let at : 2177 + (k - 2177) ≡ k = omega arith in
    ap (λ (i : ℕ). slice_index_or after i []) (sym at) ∙ sym (get_or-drop 2177 after (k - 2177) []) ∙ ap (λ (bs : List (List ℕ)). slice_index_or bs (k - 2177) []) same
    ∙ get_or-drop 2177 before (k - 2177) [] ∙ ap (λ (i : ℕ). slice_index_or before i []) at

pub same_blocks : (size : ℕ) (before after : List (List ℕ)) (places : List ℕ) → drop 2177 after ≡ drop 2177 before → All (IsInArea size) places → blocks_at places after ≡ blocks_at places before
unfolding blocks_at
same_blocks size before after [] same area = refl
same_blocks size before after (k ∷ ks) same area =
    let low = (All-head (IsInArea size) k ks area).low in
    ap (λ (b : List ℕ). b ++ flat_map (λ (i : ℕ). slice_index_or after i []) ks) (same_block before after k same low)
    ∙ ap (λ (bs : List ℕ). slice_index_or before k [] ++ bs) (same_blocks size before after ks same (All-tail (IsInArea size) k ks area))

pub same_bytes_at : (size len : ℕ) (before after : List (List ℕ)) (places : List ℕ) → drop 2177 after ≡ drop 2177 before → All (IsInArea size) places → bytes_at places len after ≡ bytes_at places len before
same_bytes_at size len before after places same area = ap (take len) (same_blocks size before after places same area)
