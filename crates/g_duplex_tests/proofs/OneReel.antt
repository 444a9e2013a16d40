-- Racks of one empty reel, and their pair.
-- serves: pair, rack
use Rattle.std.proofs.Common.{◌≡◌, ℕ, List, [], ◌∷◌, Option, Some, None, All, length, map, refl, sym, ap, ◌∙◌, arith}
use Rattle.std.proofs.lemmas.List.Elements.{All-cons, All-nil}
use Rattle.std.proofs.lemmas.List.Sorted.{All-permutation, length_permutation}
use Rattle.std.specs.Prelude.{find, ◌==◌}
use Rattle.g_tape.specs.Memory.{IsEmptyRack, Memory}
use Rattle.g_tape.specs.Reel.{Reel, empty_reel, empty_reel_of}
use Rattle.g_duplex.specs.Twins.{AreTwins}
use Rattle.g_duplex.specs.Pair.{ArePaired}
use Rattle.g_duplex.specs.Places.{standing_of_found, standings_by}
use Rattle.g_duplex.specs.declared.twin.Twin.{Twin}

one_is : (x : Reel) (rs : List Reel) → length rs ≡ 1 → All (λ r. r ≡ x) rs → rs ≡ x ∷ []
one_is x [] long all = let never : ⊥ = omega (arith, long) in absurd never
one_is x (r ∷ []) long all = ap (λ (y : Reel). y ∷ []) (all 0 r (omega arith))
one_is x (r ∷ s ∷ rs) long all = let never : ⊥ = omega (arith, long) in absurd never

pub empty_one : (labels : List (ℕ × ℕ)) (m : Memory) → labels ≡ ((1, 8) ∷ []) → IsEmptyRack labels m → m.rack.reels ≡ empty_reel 1 8 ∷ []
empty_one labels m one is =
    let given : map empty_reel_of labels ≡ empty_reel 1 8 ∷ [] = ap (map empty_reel_of) one in
    let all : All (λ r. r ≡ empty_reel 1 8) (map empty_reel_of labels) = rw given (All-cons (λ (r : Reel). r ≡ empty_reel 1 8) (empty_reel 1 8) [] refl (All-nil (λ (r : Reel). r ≡ empty_reel 1 8))) in
    one_is (empty_reel 1 8) m.rack.reels (length_permutation (map empty_reel_of labels) m.rack.reels is.reels ∙ ap (λ (rs : List Reel). length rs) given)
    (All-permutation (λ (r : Reel). r ≡ empty_reel 1 8) (map empty_reel_of labels) m.rack.reels is.reels all)

twins_same : (o : Option (ℕ × Twin)) → AreTwins (standing_of_found o) (empty_reel 1 8) (empty_reel 1 8)
twins_same None = record { serial = refl; capacity = refl; agree = (refl, λ p at q at'. let one : Some [] ≡ Some p = at in let two : Some [] ≡ Some q = at' in cc) }
twins_same (Some entry) = record { serial = refl; capacity = refl; agree = tt }

pub paired_one : (lost : List (ℕ × Twin)) (xs ys : List Reel) → xs ≡ empty_reel 1 8 ∷ [] → ys ≡ empty_reel 1 8 ∷ [] → ArePaired (standings_by lost xs) xs ys
paired_one lost xs ys one two = rw (one, two) (twins_same (find (λ (entry : ℕ × Twin). entry.0 == 1) lost), tt)
