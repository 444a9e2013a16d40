-- The 24 parameters of a level; those after the given ones are empty.
-- serves: fill_up, get, set
use Rattle.std.proofs.Common.{List, [], ap, append_assoc, arith, length, length-append, length-set, refl, replicate, set, suc, sym, zero, ℕ, ◌++◌, ◌+◌, ◌-◌, ◌<◌, ◌∙◌, ◌∷◌, ◌≡◌, ◌≤◌}
use Rattle.std.proofs.lemmas.List.{append-nil, length-replicate}
use Rattle.std.specs.Prelude.{slice_index_or}
use Rattle.g_macro.specs.Levels.{padded}

abbrev none : List ℕ
none = []

-- empty parameters after the others
pub fill-step : (all : List (List ℕ)) (n : ℕ) → n < 24 → (all ++ [] ∷ []) ++ replicate (24 - (n + 1)) [] ≡ all ++ replicate (24 - n) []
fill-step all n more =
    let e : 24 - n ≡ suc (24 - (n + 1)) = omega (arith, more) in
    append_assoc all ([] ∷ []) (replicate (24 - (n + 1)) []) ∙ ap (λ (k : ℕ). all ++ replicate k []) (sym e)

-- they are 24
pub padded_long : (params : List (List ℕ)) → length params ≤ 24 → length (padded params) ≡ 24
padded_long params few =
    omega (arith, few, length-append params (replicate (24 - length params) none), length-replicate (24 - length params) none)

-- the empty ones aren't observable
empty_at : (n i : ℕ) → slice_index_or (replicate n none) i none ≡ none
empty_at zero i = refl
empty_at (suc n) zero = refl
empty_at (suc n) (suc i) = empty_at n i

pub padded_at : (params : List (List ℕ)) (n i : ℕ) → slice_index_or (params ++ replicate n none) i none ≡ slice_index_or params i none
padded_at [] n i = empty_at n i
padded_at (first ∷ params) n zero = refl
padded_at (first ∷ params) n (suc i) = padded_at params n i

-- one of all 24 is set
pub padded_set : (params new : List (List ℕ)) (i : ℕ) (value : List ℕ) → length params ≤ 24 → new ≡ set (padded params) i value → padded new ≡ set (padded params) i value
padded_set params new i value few is =
    let long : length new ≡ 24 = ap length is ∙ length-set (padded params) i value ∙ padded_long params few in
    ap (λ (n : ℕ). new ++ replicate (24 - n) none) long ∙ append-nil new ∙ is
