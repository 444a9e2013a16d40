-- Texts as blocks: block i of a text, and the blocks of given numbers after a write.
-- serves: put_part, Reading, Writing, crates above
use Rattle.std.proofs.Common.{◌≡◌, ◌≢◌, ℕ, suc, ◌+◌, ◌-◌, ◌*◌, ◌<◌, ◌≤◌, min, List, [], ◌∷◌, ◌++◌, length, take, drop, replicate, get_or, refl, sym, ap, ◌∙◌, inl, inr, arith}
use Rattle.std.specs.Prelude.{All, Contains, Option, slice_index_or, unwrap_or}
use Rattle.std.specs.List.{flat_map}
use Rattle.std.proofs.Math.ListN.{set}
use Rattle.std.proofs.Math.Seq.{take-append-add, drop-append-add}
use Rattle.std.proofs.lemmas.Bool.{cases_lt}
use Rattle.std.proofs.lemmas.List.{append-nil, length-take, length-drop, take_all, take_min, drop_min, drop_all, take-append-le, drop-append-le, take-replicate, drop-replicate, take_more, get_or-set_other}
use Rattle.std.proofs.lemmas.Option.{unwrap_or-slice_get}
use Rattle.std.proofs.lemmas.Grind.{flat_map-append}
use Rattle.g_base.specs.Fields.{padded}
use Rattle.g_copy.specs.Copy.{OnlyAt, blocks_at}

-- block i of the bytes, cut at their end
pub block-clipped : (bytes : List ℕ) (i : ℕ) → take (min (min (512 * i) (length bytes) + 512) (length bytes) - min (512 * i) (length bytes)) (drop (min (512 * i) (length bytes)) bytes) ≡ take 512 (drop (512 * i) bytes)
block-clipped bytes i =
    let s = min (512 * i) (length bytes) in
    let left = length-drop s bytes in
    let long : min (s + 512) (length bytes) - s ≡ min 512 (length (drop s bytes)) = omega arith in
    ap (λ (n : ℕ). take n (drop s bytes)) long ∙ take_min 512 (drop s bytes) ∙ ap (take 512) (drop_min (512 * i) bytes)

-- the first n bytes of two concatenated texts
pub take-append : (n : ℕ) (xs ys : List ℕ) → take n (xs ++ ys) ≡ take n xs ++ take (n - length xs) ys
take-append n xs ys =
    elim (cases_lt n (length xs)) [
      | inl below ↦
          let none : n - length xs ≡ 0 = omega arith in
          take-append-le n xs ys (omega arith) ∙ sym (append-nil (take n xs)) ∙ ap (λ (m : ℕ). take n xs ++ take m ys) (sym none)
      | inr past ↦
          let sum : n ≡ length xs + (n - length xs) = omega arith in
          ap (λ (m : ℕ). take m (xs ++ ys)) sum ∙ take-append-add xs ys (n - length xs) ∙ ap (λ (zs : List ℕ). zs ++ take (n - length xs) ys) (sym (take_all n xs past))
    ]

-- two concatenated texts without their first n bytes
pub drop-append : (n : ℕ) (xs ys : List ℕ) → drop n (xs ++ ys) ≡ drop n xs ++ drop (n - length xs) ys
drop-append n xs ys =
    elim (cases_lt n (length xs)) [
      | inl below ↦
          let none : n - length xs ≡ 0 = omega arith in
          drop-append-le n xs ys (omega arith) ∙ ap (λ (m : ℕ). drop n xs ++ drop m ys) (sym none)
      | inr past ↦
          let sum : n ≡ length xs + (n - length xs) = omega arith in
          ap (λ (m : ℕ). drop m (xs ++ ys)) sum ∙ drop-append-add xs ys (n - length xs) ∙ ap (λ (zs : List ℕ). zs ++ drop (n - length xs) ys) (sym (drop_all n xs past))
    ]

-- a text padded with zeros, without its first s bytes
drop_padded : (bytes : List ℕ) (zeros s : ℕ) → drop s (bytes ++ replicate zeros 0) ≡ drop s bytes ++ replicate (zeros - (s - length bytes)) 0
drop_padded bytes zeros s =
    drop-append s bytes (replicate zeros 0) ∙ ap (λ (zs : List ℕ). drop s bytes ++ zs) (drop-replicate (s - length bytes) zeros 0)

-- the first block of a text with enough zeros after it
take_padded : (part : List ℕ) (zeros : ℕ) → 512 - length part ≤ zeros → take 512 (part ++ replicate zeros 0) ≡ take 512 part ++ replicate (512 - length part) 0
take_padded part zeros room =
    take-append 512 part (replicate zeros 0) ∙ ap (λ (zs : List ℕ). take 512 part ++ zs) (take-replicate (512 - length part) zeros 0 room)

-- a text cut to a block needs as many zeros as the text itself
padded_cut : (part : List ℕ) → padded 512 (take 512 part) ≡ take 512 part ++ replicate (512 - length part) 0
unfolding padded
padded_cut part =
    let cut = length-take 512 part in
    let short : 512 - length (take 512 part) ≡ 512 - length part = omega arith in
    ap (λ (m : ℕ). take 512 part ++ replicate {A = ℕ} m 0) short

-- block i of the padded bytes is block i of the bytes, padded
pub block-padded : (bytes : List ℕ) (n i : ℕ) → i < n → length bytes ≤ 512 * n → padded 512 (take 512 (drop (512 * i) bytes)) ≡ take 512 (drop (512 * i) (padded (512 * n) bytes))
unfolding padded
block-padded bytes n i within fits =
    let left = length-drop (512 * i) bytes in
    padded_cut (drop (512 * i) bytes)
    ∙ sym (
    ap (take 512) (drop_padded bytes (512 * n - length bytes) (512 * i))
    ∙ take_padded (drop (512 * i) bytes) (512 * n - length bytes - (512 * i - length bytes)) (omega arith))

-- a write into another block leaves these unchanged
pub blocks_at-set_other : (places : List ℕ) (blocks : List (List ℕ)) (k : ℕ) (v : List ℕ) → All (λ p. p ≢ k) places → blocks_at places (set blocks k v) ≡ blocks_at places blocks
unfolding blocks_at
blocks_at-set_other [] blocks k v other = refl
blocks_at-set_other (p ∷ places) blocks k v other =
    let head : slice_index_or (set blocks k v) p [] ≡ slice_index_or blocks p [] = get_or-set_other blocks k p v [] (other 0 0 (omega arith)) in
    let rest : blocks_at places (set blocks k v) ≡ blocks_at places blocks = blocks_at-set_other places blocks k v (λ j d within. other (suc j) d (omega arith)) in
    ap (λ (h : List ℕ). h ++ blocks_at places (set blocks k v)) head ∙ ap (λ (r : List ℕ). slice_index_or blocks p [] ++ r) rest

-- one more block
pub blocks_at-more : (places : List ℕ) (n : ℕ) (blocks : List (List ℕ)) → n < length places → blocks_at (take (n + 1) places) blocks ≡ blocks_at (take n places) blocks ++ slice_index_or blocks (get_or places n 0) []
unfolding blocks_at
blocks_at-more places n blocks within =
    let at : ℕ → List ℕ = λ k. slice_index_or blocks k [] in
    ap (flat_map at) (take_more places n 0 within) ∙ flat_map-append at (take n places) (get_or places n 0 ∷ []) ∙ ap (λ (zs : List ℕ). flat_map at (take n places) ++ zs) (append-nil (at (get_or places n 0)))

-- blocks none of which changed
pub blocks_at-OnlyAt : (places others : List ℕ) (before after : List (List ℕ)) → OnlyAt places before after → All (λ k. Contains places k → ⊥) others → blocks_at others after ≡ blocks_at others before
unfolding blocks_at
blocks_at-OnlyAt places [] before after only apart = refl
blocks_at-OnlyAt places (k ∷ others) before after only apart =
    let rest : blocks_at others after ≡ blocks_at others before =
    blocks_at-OnlyAt places others before after only (λ j d within. apart (suc j) d (omega arith)) in
    let here : slice_index_or after k [] ≡ slice_index_or before k [] =
    sym (unwrap_or-slice_get after k []) ∙ ap (λ (o : Option (List ℕ)). unwrap_or o []) (only.others k (apart 0 0 (omega arith))) ∙ unwrap_or-slice_get before k [] in
    ap (λ (h : List ℕ). h ++ blocks_at others after) here ∙ ap (λ (r : List ℕ). slice_index_or before k [] ++ r) rest
