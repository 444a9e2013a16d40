-- Reels of two folders that are a pair.
-- serves: are_alike
use Rattle.std.proofs.Common.{◌≡◌, ℕ, zero, suc, ◌+◌, ◌<◌, List, [], ◌∷◌, length, get_or, take, subst, arith}
use Rattle.g_tape.specs.Reel.{Reel}
use Rattle.g_duplex.specs.Twins.{AreTwins}
use Rattle.g_duplex.specs.Pair.{ArePaired}
use Rattle.g_duplex.specs.Places.{standing_by, standings_by}
use Rattle.g_duplex.specs.declared.twin.Twin.{Twin}

-- one more pair of reels
paired_suc : (lost : List (ℕ × Twin)) (xs ys : List Reel) (i : ℕ) (d e : Reel) → i < length xs → i < length ys → ArePaired (standings_by lost (take i xs)) (take i xs) (take i ys)
    → AreTwins (standing_by (get_or xs i d).serial lost) (get_or xs i d) (get_or ys i e) → ArePaired (standings_by lost (take (suc i) xs)) (take (suc i) xs) (take (suc i) ys)
paired_suc lost [] ys i d e within within' paired twins = elim within [ ]
paired_suc lost (x ∷ xs) [] i d e within within' paired twins = elim within' [ ]
paired_suc lost (x ∷ xs) (y ∷ ys) zero d e within within' paired twins = (twins, tt)
paired_suc lost (x ∷ xs) (y ∷ ys) (suc i) d e within within' (first, rest) twins = (first, paired_suc lost xs ys i d e (omega (arith, within)) (omega (arith, within')) rest twins)

pub paired_more : (lost : List (ℕ × Twin)) (xs ys : List Reel) (i : ℕ) (d e : Reel) → i < length xs → i < length ys → ArePaired (standings_by lost (take i xs)) (take i xs) (take i ys)
    → AreTwins (standing_by (get_or xs i d).serial lost) (get_or xs i d) (get_or ys i e) → ArePaired (standings_by lost (take (i + 1) xs)) (take (i + 1) xs) (take (i + 1) ys)
paired_more lost xs ys i d e within within' paired twins =
    subst (λ (j : ℕ). ArePaired (standings_by lost (take j xs)) (take j xs) (take j ys)) (let same : suc i ≡ i + 1 = omega arith in same) (paired_suc lost xs ys i d e within within' paired twins)
