-- Two lists appended, by the places of both.
-- serves: writers
use Rattle.std.proofs.Common.{◌≡◌, ◌-◌, ◌<◌, ◌≤◌, ◌++◌, ◌∙◌, List, None, Option, ap, arith, get_or, length, set, sym, ℕ}
use Rattle.std.proofs.lemmas.List.{get_or-append_right, get_or_append_left, get_or_default, set-append_left, set-append_right}

module _ {X : Type 0} (xs ys : List (Option X)) where
  -- the item at a place of the first, and of the second
  pub at_first : (i : ℕ) (v : Option X) → i < length xs → v ≡ get_or xs i v → v ≡ get_or (xs ++ ys) i None
  at_first i v within is = is ∙ get_or_default xs i v None within ∙ sym (get_or_append_left xs ys None i within)

  pub at_second : (i : ℕ) (v : Option X) → length xs ≡ 8 → 8 ≤ i → i - 8 < length ys → v ≡ get_or ys (i - 8) v → v ≡ get_or (xs ++ ys) i None
  at_second i v long from within is = is ∙ get_or_default ys (i - 8) v None within ∙ sym (get_or-append_right xs ys 8 i None long from)

  -- an item written at a place of the first, and of the second
  pub put_first : (new : List (Option X)) (i : ℕ) (v : Option X) → i < length xs → new ≡ set xs i v → new ++ ys ≡ set (xs ++ ys) i v
  put_first new i v within is = ap (λ (zs : List (Option X)). zs ++ ys) is ∙ sym (set-append_left xs ys i v within)

  pub put_second : (new : List (Option X)) (i : ℕ) (v : Option X) → length xs ≡ 8 → 8 ≤ i → new ≡ set ys (i - 8) v → xs ++ new ≡ set (xs ++ ys) i v
  put_second new i v long from is = ap (λ (zs : List (Option X)). xs ++ zs) is ∙ sym (set-append_right xs ys 8 i v long from)
