-- A rack of empty reels, sorted by their serials.
-- serves: new
use Rattle.std.proofs.Common.{◌≡◌, ◌≢◌, ℕ, ◌<◌, ◌≤◌, List, [], ◌∷◌, All, AllPairs, length, map, get_or, replicate, refl, subst, sym, ap, ◌∙◌, arith, inl, inr, eqb}
use Rattle.std.specs.List.{IsDistinct}
use Rattle.std.specs.List.Sorted.{IsPermutation, IsNonDecreasingBy, IsNonDecreasing, IsStrictlyIncreasing}
use Rattle.std.proofs.Math.ListN.{get_or-map}
use Rattle.std.proofs.lemmas.Bool.{eq-eqb, ne_eqb}
use Rattle.std.proofs.lemmas.Bool.Decides.{eqb_tells}
use Rattle.std.proofs.lemmas.List.{length-map, length-replicate}
use Rattle.std.proofs.lemmas.List.Elements.{All-map}
use Rattle.std.proofs.lemmas.List.Sorted.{IsPermutation-map}
use Rattle.std.proofs.lemmas.Map.Keys.{IsDistinct-from_apart, IsDistinct-IsPermutation, IsStrictlyIncreasing-from_distinct}
use Rattle.std.proofs.lemmas.Map.Views.{All-map-IsPermutation}
use Rattle.g_base.specs.Block.{IsBlock}
use Rattle.g_tape.specs.Reel.{Reel, IsReel, IsLabel, empty_reel_of}
use Rattle.g_tape.specs.Rack.{AreReels}

abbrev pub serial_of : ℕ × ℕ → ℕ
serial_of label = label.0

eqb-flips : (x y : ℕ) → eqb x y ≡ eqb y x
eqb-flips x y =
    elim (eqb_tells x y) [
      | inl same ↦ same.0 ∙ sym (eq-eqb y x (sym same.1))
      | inr apart ↦ apart.0 ∙ sym (ne_eqb y x (λ e. apart.1 (sym e)))
    ]

-- the serials of the reels are those of the labels
serials : (labels : List (ℕ × ℕ)) → map (λ (r : Reel). r.serial) (map empty_reel_of labels) ≡ map serial_of labels
serials [] = refl
serials (l ∷ ls) = ap (λ (xs : List ℕ). l.0 ∷ xs) (serials ls)

-- a label within the limits gives a reel within them
IsReel-empty : (label : ℕ × ℕ) → IsLabel label → IsReel (empty_reel_of label)
IsReel-empty label is = record {
  numbered = is.numbered;
  numbered_most = is.numbered_most;
  sized = is.sized;
  sized_most = is.sized_most;
  within = omega arith;
  told = λ bs at. let none : [] ≡ bs = cc in ap length (sym none);
  whole = λ bs at. let none : [] ≡ bs = cc in subst (All IsBlock) none (λ k d h. absurd (omega (arith, h)));
  counted = λ ts at. let all : replicate label.1 0 ≡ ts = cc in ap length (sym all) ∙ length-replicate label.1 0;
}

numbers-rise : (labels : List (ℕ × ℕ)) → IsNonDecreasingBy serial_of labels → IsNonDecreasing (map serial_of labels)
numbers-rise labels sorted i j d le within =
    let n : j < length labels = omega (arith, length-map labels serial_of, within) in
    let one : get_or (map serial_of labels) i d ≡ serial_of (get_or labels i (d, d)) = get_or-map serial_of labels i (d, d) in
    let other : get_or (map serial_of labels) j d ≡ serial_of (get_or labels j (d, d)) = get_or-map serial_of labels j (d, d) in
    omega (arith, one, other, sorted i j (d, d) le n)

pub AreReels-empty : (given labels : List (ℕ × ℕ)) → length given ≤ 16 → All IsLabel given → AllPairs (λ (one other : ℕ). one ≢ other) (map serial_of given) → IsPermutation given labels → length labels ≡ length given → IsNonDecreasingBy serial_of labels → AreReels (map empty_reel_of labels)
AreReels-empty given labels few limits apart order long sorted =
    let distinct : IsDistinct eqb (map serial_of given) = IsDistinct-from_apart eqb (map serial_of given) (λ i j d before below. ne_eqb _ _ (apart i j d before below)) in
    let still : IsDistinct eqb (map serial_of labels) = IsDistinct-IsPermutation eqb eqb-flips _ _ (IsPermutation-map serial_of given labels order) distinct in
    let rising : IsStrictlyIncreasing (map serial_of labels) = IsStrictlyIncreasing-from_distinct _ (numbers-rise labels sorted) still in
    let all : All IsReel (map empty_reel_of given) = All-map IsReel empty_reel_of given (λ k d h. IsReel-empty _ (limits k d h)) in
    record {
      few = omega (arith, length-map labels empty_reel_of, long);
      rising = subst IsStrictlyIncreasing (sym (serials labels)) rising;
      each = All-map-IsPermutation empty_reel_of IsReel given labels order all;
    }
