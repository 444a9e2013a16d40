-- The parameter at a place, and the modes from a place on.
-- serves: first_wrong, values
use Rattle.std.proofs.Common.{List, None, Option, Some, [], ap, drop, get_or, length, subst, sym, ℕ, ◌+◌, ◌<◌, ◌∙◌, ◌∷◌, ◌≡◌, ◌≤◌}
use Rattle.std.proofs.lemmas.List.{drop_all, drop_more}
use Rattle.std.proofs.lemmas.Option.{get_or_from_slice_get, none-some, slice_get-get_or}
use Rattle.std.specs.List.{slice_get}
use Rattle.g_trap.specs.declared.mode_set.Mode.{Mode}
use Rattle.g_verbs.specs.VerbReader.{mode_read, modes_read, param, with_mode}

pub is_param : (params : List (List ℕ)) (place : ℕ) (text : List ℕ) → slice_get params place ≡ Some text → text ≡ param params place
is_param params place text at = sym (get_or_from_slice_get params place text [] at)

pub no_param : (params : List (List ℕ)) (place : ℕ) → place < length params → slice_get params place ≡ None → ⊥
no_param params place inside none = none-some (get_or params place []) (sym none ∙ slice_get-get_or params place [] inside)

pub there : (params : List (List ℕ)) (place count : ℕ) → count ≡ length params → place < count → slice_get params place ≡ Some (param params place)
there params place count same inside = slice_get-get_or params place [] (subst (λ (n : ℕ). place < n) same inside)

pub more_modes : (params : List (List ℕ)) (place count : ℕ) (text : List ℕ) (mode : Option Mode) (modes all : ℕ) → count ≡ length params → place < count → text ≡ param params place
    → mode ≡ mode_read text → modes ≡ modes_read (drop (place + 1) params) → all ≡ with_mode mode modes → all ≡ modes_read (drop place params)
more_modes params place count text mode modes all same inside is read others whole =
    let cut : drop place params ≡ get_or params place [] ∷ drop (place + 1) params = drop_more params place [] (subst (λ (n : ℕ). place < n) same inside) in
    whole ∙ ap (λ (m : Option Mode). with_mode m modes) (read ∙ ap mode_read is) ∙ ap (with_mode (mode_read (param params place))) others ∙ sym (ap modes_read cut)

pub no_modes : (params : List (List ℕ)) (place count all : ℕ) → count ≡ length params → count ≤ place → all ≡ 0 → all ≡ modes_read (drop place params)
no_modes params place count all same past none = none ∙ sym (ap modes_read (drop_all place params (subst (λ (n : ℕ). n ≤ place) same past)))
