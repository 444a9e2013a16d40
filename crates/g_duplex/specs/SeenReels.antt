-- The reels that a pair shows are the reels of a rack. (This law of the trait is here, since a ghost member can only use
-- specs.)
use Rattle.std.proofs.Common.{◌≡◌, ℕ, suc, List, [], ◌∷◌, Bool, Option, Some, None, All, length, map, arith, refl, sym, ap}
use Rattle.std.proofs.lemmas.List.Elements.{All-cons, All-head, All-tail}
use Rattle.std.specs.Option.{ForSome}
use Rattle.g_base.specs.Block.{IsBlock}
use Rattle.g_tape.specs.Reel.{IsReel, Reel}
use Rattle.g_tape.specs.Rack.{AreReels}
use Rattle.g_duplex.specs.Twins.{AreTwins, are_up, pair_reel, told_with}
use Rattle.g_duplex.specs.Pair.{ArePaired, pair_reels}
use Rattle.g_duplex.specs.declared.twin.Twin.TheVariants.{First, Second}
use Rattle.g_duplex.specs.declared.twin.Standing.{Standing}
use Rattle.g_duplex.specs.declared.twin.Standing.TheVariants.{Apart, Level, Lost}

-- The pair shows the serials of the first rack.
pub labels_seen : (ts : List Standing) (xs ys : List Reel) → ArePaired ts xs ys → map (λ r. r.serial) (pair_reels ts xs ys) ≡ map (λ r. r.serial) xs
labels_seen [] [] [] paired = refl
labels_seen [] [] (b ∷ ys) paired = absurd paired
labels_seen [] (a ∷ xs) ys paired = absurd paired
labels_seen (t ∷ ts) [] ys paired = absurd paired
labels_seen (t ∷ ts) (a ∷ xs) [] paired = absurd paired
labels_seen (t ∷ ts) (a ∷ xs) (b ∷ ys) (twins, rest) = ap (λ (ns : List ℕ). a.serial ∷ ns) (labels_seen ts xs ys rest)

-- The pair shows as many reels as the first rack has.
pub long_seen : (ts : List Standing) (xs ys : List Reel) → ArePaired ts xs ys → length (pair_reels ts xs ys) ≡ length xs
long_seen [] [] [] paired = refl
long_seen [] [] (b ∷ ys) paired = absurd paired
long_seen [] (a ∷ xs) ys paired = absurd paired
long_seen (t ∷ ts) [] ys paired = absurd paired
long_seen (t ∷ ts) (a ∷ xs) [] paired = absurd paired
long_seen (t ∷ ts) (a ∷ xs) (b ∷ ys) (twins, rest) = ap suc (long_seen ts xs ys rest)

told_one : (P : List (List ℕ) → Type 0) (x y : Option (List (List ℕ))) → ForSome x P → ForSome (told_with x y) P
told_one P None y all bs is = absurd (cc)
told_one P (Some x) None all bs is = absurd (cc)
told_one P (Some x) (Some y) all bs is = all bs is

from_reel : (t : Standing) (a b c d : Reel) (m : Bool) → IsReel a → IsReel c → c.capacity ≡ a.capacity
    → IsReel (record { serial = a.serial; capacity = a.capacity; len = c.len; mounted = m; blocks = told_with c.blocks d.blocks; times_read = None })
from_reel t a b c d m is is' same = record {
  numbered = is.numbered;
  numbered_most = is.numbered_most;
  sized = is.sized;
  sized_most = is.sized_most;
  within = omega (arith, is'.within, same);
  told = told_one (λ bs. length bs ≡ c.len) c.blocks d.blocks is'.told;
  whole = told_one (λ bs. All IsBlock bs) c.blocks d.blocks is'.whole;
  counted = λ ns none. absurd (cc);
}

reel_seen : (t : Standing) (a b : Reel) → AreTwins t a b → IsReel a → IsReel b → IsReel (pair_reel t a b)
reel_seen Level a b twins is is' = from_reel Level a b a b (are_up Level a.mounted b.mounted) is is refl
reel_seen (Apart k) a b twins is is' = from_reel (Apart k) a b a b (are_up (Apart k) a.mounted b.mounted) is is refl
reel_seen (Lost First) a b twins is is' = from_reel (Lost First) a b b a b.mounted is is' (sym twins.capacity)
reel_seen (Lost Second) a b twins is is' = from_reel (Lost Second) a b a b a.mounted is is refl

each_seen : (ts : List Standing) (xs ys : List Reel) → ArePaired ts xs ys → All IsReel xs → All IsReel ys → All IsReel (pair_reels ts xs ys)
each_seen [] [] [] paired all all' = all
each_seen [] [] (b ∷ ys) paired all all' = absurd paired
each_seen [] (a ∷ xs) ys paired all all' = absurd paired
each_seen (t ∷ ts) [] ys paired all all' = absurd paired
each_seen (t ∷ ts) (a ∷ xs) [] paired all all' = absurd paired
each_seen (t ∷ ts) (a ∷ xs) (b ∷ ys) (twins, rest) all all' =
    All-cons IsReel (pair_reel t a b) (pair_reels ts xs ys) (reel_seen t a b twins (All-head IsReel a xs all) (All-head IsReel b ys all'))
    (each_seen ts xs ys rest (All-tail IsReel a xs all) (All-tail IsReel b ys all'))

-- The reels that the pair shows satisfy the rules of a rack's reels.
pub are_reels : (ts : List Standing) (xs ys : List Reel) → ArePaired ts xs ys → AreReels xs → AreReels ys → AreReels (pair_reels ts xs ys)
are_reels ts xs ys paired is is' = record {
  few = rw (long_seen ts xs ys paired) is.few;
  rising = rw (labels_seen ts xs ys paired) is.rising;
  each = each_seen ts xs ys paired is.each is'.each;
}
