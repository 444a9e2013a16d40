-- A known block, where those after the last stored one are zeros.
-- serves: holds, nothing, put (rest), set (here, rest)
use Rattle.std.proofs.Common.{◌≡◌, ◌≢◌, ℕ, zero, suc, ◌<◌, ◌++◌, Bool, true, false, List, [], ◌∷◌, Option, Some, None, length, replicate, slice_get, slice_index_or, slice_set, if◌then◌else◌, option_map, inl, inr, refl, sym, ap, ◌∙◌, arith, get_or-set_same, length-set}
use Rattle.std.specs.Str.{bytes_eq}
use Rattle.std.proofs.lemmas.Bool.{cases_lt}
use Rattle.std.proofs.lemmas.List.{get_or-replicate, get_or_past, length-replicate}
use Rattle.std.proofs.lemmas.Option.{slice_get-get_or}
use Rattle.g_blocks.proofs.Marks.{slice_get-set_other}
use Rattle.g_dirs.specs.KnownBlocks.{seen}
use Rattle.g_dirs.specs.Pages.{is_page}

-- the known content of block k
abbrev pub told : List (List ℕ) → ℕ → Bool → Option (List ℕ)
told blocks k is = if is then Some (slice_index_or blocks k (replicate 512 0)) else None

pub seen_at : (known : List Bool) (blocks : List (List ℕ)) (k : ℕ) → slice_get (seen known blocks) k ≡ option_map (told blocks k) (slice_get known k)
seen_at [] blocks k = refl
seen_at (is ∷ known) [] zero = refl
seen_at (is ∷ known) [] (suc k) = seen_at known [] k
seen_at (is ∷ known) (b ∷ blocks) zero = refl
seen_at (is ∷ known) (b ∷ blocks) (suc k) = seen_at known blocks k

pub seen_nothing : (n : ℕ) → seen (replicate n false) [] ≡ replicate n None
seen_nothing zero = refl
seen_nothing (suc n) = ap (λ (ps : List (Option (List ℕ))). None ∷ ps) (seen_nothing n)

-- the comparison with a block
pub page_seen : (known : List Bool) (blocks : List (List ℕ)) (k : ℕ) (block : List ℕ) (is : Bool) → k < length known → slice_index_or known k false ≡ is
    → is_page block (slice_get (seen known blocks) k) ≡ (if is then bytes_eq (slice_index_or blocks k (replicate 512 0)) block else false)
page_seen known blocks k block true within is =
    ap (is_page block) (seen_at known blocks k ∙ ap (option_map (told blocks k)) (slice_get-get_or known k false within ∙ ap Some is))
page_seen known blocks k block false within is =
    ap (is_page block) (seen_at known blocks k ∙ ap (option_map (told blocks k)) (slice_get-get_or known k false within ∙ ap Some is))

-- one more block is known
module _ (known : List Bool) (old new : List (List ℕ)) (k : ℕ) where
  pub set_here : (block : List ℕ) → k < length known → slice_index_or new k (replicate 512 0) ≡ block → slice_get (seen (slice_set known k true) new) k ≡ Some (Some block)
  set_here block within here =
      seen_at (slice_set known k true) new k
      ∙ ap (option_map (told new k)) (slice_get-get_or (slice_set known k true) k false (omega (arith, within, length-set known k true)) ∙ ap Some (get_or-set_same known k true false within))
      ∙ ap (λ (b : List ℕ). Some (Some b)) here

  pub set_rest : ((j : ℕ) → j ≢ k → slice_index_or new j (replicate 512 0) ≡ slice_index_or old j (replicate 512 0))
      → (j : ℕ) → j ≢ k → slice_get (seen (slice_set known k true) new) j ≡ slice_get (seen known old) j
  set_rest rest j other =
      seen_at (slice_set known k true) new j
      ∙ ap (option_map (told new j)) (slice_get-set_other known k j true other)
      ∙ ap (λ (b : List ℕ). option_map (λ (is : Bool). if is then Some b else None) (slice_get known j)) (rest j other)
      ∙ sym (seen_at known old j)

-- zeros after the end make no difference
zeros_at : {X : Type 0} (n j : ℕ) (z : X) → slice_index_or (replicate n z) j z ≡ z
zeros_at n j z =
    elim (cases_lt j n) [
      | inl less ↦ get_or-replicate n j z z less
      | inr reached ↦ get_or_past (replicate n z) j z (omega (arith, reached, length-replicate n z))
    ]

pub filled_at : {X : Type 0} (xs : List X) (n j : ℕ) (z : X) → slice_index_or (xs ++ replicate n z) j z ≡ slice_index_or xs j z
filled_at [] n j z = zeros_at n j z
filled_at (x ∷ xs) n zero z = refl
filled_at (x ∷ xs) n (suc j) z = filled_at xs n j z
