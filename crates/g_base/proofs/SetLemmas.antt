-- A set of keys is as large as the list that it was collected from if and only if the keys are distinct.
-- serves: are_distinct
use Rattle.std.proofs.Common.{◌≡◌, ◌≢◌, ◌↔◌, ℕ, ◌<◌, Bool, true, false, List, [], ◌∷◌, length, subst, map, AllPairs, refl, sym, ◌∙◌, ap, arith, nat_eq, HashSet}
use Rattle.std.specs.Prelude.{IsTrue}
use Rattle.std.specs.Bool.{Decides}
use Rattle.std.specs.Cmp.{IsEquivalence}
use Rattle.std.specs.HashSet as bag
use Rattle.std.specs.HashSet.{hash_set_len}
use Rattle.std.proofs.lemmas.List.{get_or-map, length-map}
use Rattle.std.proofs.lemmas.Map.Made.{hash_set_len-Decides}

-- distinct keys, by what they are keys of
apart_from : {X K : Type 0} (f : X → K) (xs : List X) → AllPairs (λ a b. a ≢ b) (map f xs) → AllPairs (λ x y. f x ≢ f y) xs
apart_from f xs all i j d before inside same =
    let there : j < length (map f xs) = omega (arith, inside, length-map xs f) in
    all i j (f d) before there (get_or-map f xs i d (f d) (omega arith) ∙ same ∙ sym (get_or-map f xs j d (f d) inside))

apart_to : {X K : Type 0} (f : X → K) (xs : List X) → AllPairs (λ x y. f x ≢ f y) xs → AllPairs (λ a b. a ≢ b) (map f xs)
apart_to f [] all i j e before inside same = omega (arith, inside)
apart_to f (x ∷ xs) all i j e before inside same =
    let there : j < length (x ∷ xs) = subst (λ (n : ℕ). j < n) (length-map (x ∷ xs) f) inside in
    all i j x before there (sym (get_or-map f (x ∷ xs) i x e (omega arith)) ∙ same ∙ get_or-map f (x ∷ xs) j x e there)

same_bools : (a b : Bool) → (a ≡ true → b ≡ true) → (b ≡ true → a ≡ true) → a ≡ b
same_bools true b to from = sym (to refl)
same_bools false true to from = from refl
same_bools false false to from = refl

-- an equality that decides is an equivalence
equivalence_from : {K : Type 0} {eq : K → K → Bool} → ((a b : K) → Decides (eq a b) (a ≡ b)) → IsEquivalence eq
equivalence_from {K = K} {eq = eq} same = record {
  refl = λ x. (same x x).1 refl;
  symm = λ x y. same_bools (eq x y) (eq y x) (λ is. (same y x).1 (sym ((same x y).0 is))) (λ is. (same x y).1 (sym ((same y x).0 is)));
  congr = λ x y z is. ap (λ (k : K). eq k z) ((same x y).0 is);
}

pub size_tells : {X K S : Type 0} {eq : K → K → Bool} (f : X → K) (xs : List X) (n : HashSet K S) (len : ℕ) → ((a b : K) → Decides (eq a b) (a ≡ b))
    → bag.IsFromIterResult eq (map f xs) n → len ≡ hash_set_len n → IsTrue (nat_eq len (length xs)) ↔ AllPairs (λ x y. f x ≢ f y) xs
size_tells f xs n len same from is =
    let both = hash_set_len-Decides same (equivalence_from same) (map f xs) n from in
    let sizes : nat_eq len (length xs) ≡ nat_eq (hash_set_len n) (length (map f xs)) = ap (λ (m : ℕ). nat_eq m (length xs)) is ∙ ap (λ (m : ℕ). nat_eq (hash_set_len n) m) (sym (length-map xs f)) in
    (λ tells. apart_from f xs (both.0 (sym sizes ∙ tells)), λ all. sizes ∙ both.1 (apart_to f xs all))
