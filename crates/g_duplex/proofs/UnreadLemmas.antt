-- Reads of the racks leave what is seen of them, and leave twins.
-- serves: agree, read, ReadLemmas, RebuildLemmas
use Rattle.std.proofs.Common.{◌≡◌, ℕ, List, [], ◌∷◌, map, refl, sym, subst, ap, ◌∙◌, inl, inr}
use Rattle.std.proofs.lemmas.Bool.Decides.{eqb_tells}
use Rattle.g_tape.specs.Reel.{Reel, read_at}
use Rattle.g_tape.specs.Rack.{with_reel}
use Rattle.g_tape.specs.Reads.{unread}
use Rattle.g_duplex.specs.Twins.{AreTwins, DoAgree, pair_reel}
use Rattle.g_duplex.specs.Pair.{ArePaired, pair_reels}
use Rattle.g_duplex.specs.declared.twin.Twin.TheVariants.{First, Second}
use Rattle.g_duplex.specs.declared.twin.Standing.{Standing}
use Rattle.g_duplex.specs.declared.twin.Standing.TheVariants.{Level, Apart, Lost}

-- a pair is seen without the counts of reads
pair_unread : (t : Standing) (a b a' b' : Reel) → unread a' ≡ unread a → unread b' ≡ unread b → pair_reel t a' b' ≡ pair_reel t a b
pair_unread Level a b a' b' one two =
    ap (λ (x : Reel). pair_reel Level x (unread b')) one ∙ ap (λ (y : Reel). pair_reel Level (unread a) y) two
pair_unread (Apart k) a b a' b' one two =
    ap (λ (x : Reel). pair_reel (Apart k) x (unread b')) one ∙ ap (λ (y : Reel). pair_reel (Apart k) (unread a) y) two
pair_unread (Lost First) a b a' b' one two =
    ap (λ (x : Reel). pair_reel (Lost First) x (unread b')) one ∙ ap (λ (y : Reel). pair_reel (Lost First) (unread a) y) two
pair_unread (Lost Second) a b a' b' one two =
    ap (λ (x : Reel). pair_reel (Lost Second) x (unread b')) one ∙ ap (λ (y : Reel). pair_reel (Lost Second) (unread a) y) two

agree_unread : (t : Standing) (a b a' b' : Reel) → unread a' ≡ unread a → unread b' ≡ unread b → DoAgree t a b → DoAgree t a' b'
agree_unread Level a b a' b' one two agree =
    subst (λ (x : Reel). DoAgree Level x (unread b')) (sym one) (subst (λ (y : Reel). DoAgree Level (unread a) y) (sym two) agree)
agree_unread (Apart k) a b a' b' one two agree =
    subst (λ (x : Reel). DoAgree (Apart k) x (unread b')) (sym one) (subst (λ (y : Reel). DoAgree (Apart k) (unread a) y) (sym two) agree)
agree_unread (Lost twin) a b a' b' one two agree = tt

twins_unread : (t : Standing) (a b a' b' : Reel) → unread a' ≡ unread a → unread b' ≡ unread b → AreTwins t a b → AreTwins t a' b'
twins_unread t a b a' b' one two twins = record {
  serial = ap (λ (x : Reel). x.serial) one ∙ twins.serial ∙ sym (ap (λ (x : Reel). x.serial) two);
  capacity = ap (λ (x : Reel). x.capacity) one ∙ twins.capacity ∙ sym (ap (λ (x : Reel). x.capacity) two);
  agree = agree_unread t a b a' b' one two twins.agree;
}

head_unread : (x y : Reel) (xs ys : List Reel) → map unread (x ∷ xs) ≡ map unread (y ∷ ys) → unread x ≡ unread y
head_unread x y xs ys same = let is : (unread x ∷ map unread xs) ≡ (unread y ∷ map unread ys) = same in cc

tail_unread : (x y : Reel) (xs ys : List Reel) → map unread (x ∷ xs) ≡ map unread (y ∷ ys) → map unread xs ≡ map unread ys
tail_unread x y xs ys same = let is : (unread x ∷ map unread xs) ≡ (unread y ∷ map unread ys) = same in cc

more_unread : (x : Reel) (xs : List Reel) → map unread [] ≡ map unread (x ∷ xs) → ⊥
more_unread x xs same = let is : [] ≡ (unread x ∷ map unread xs) = same in cc

pub seen_unread : (ts : List Standing) (xs ys xs' ys' : List Reel) → map unread xs' ≡ map unread xs → map unread ys' ≡ map unread ys
    → pair_reels ts xs' ys' ≡ pair_reels ts xs ys
seen_unread [] xs ys xs' ys' one two = refl
seen_unread (t ∷ ts) [] ys [] ys' one two = refl
seen_unread (t ∷ ts) [] ys (x ∷ xs') ys' one two = absurd (more_unread x xs' (sym one))
seen_unread (t ∷ ts) (x ∷ xs) ys [] ys' one two = absurd (more_unread x xs one)
seen_unread (t ∷ ts) (x ∷ xs) [] (x' ∷ xs') [] one two = refl
seen_unread (t ∷ ts) (x ∷ xs) [] (x' ∷ xs') (y ∷ ys') one two = absurd (more_unread y ys' (sym two))
seen_unread (t ∷ ts) (x ∷ xs) (y ∷ ys) (x' ∷ xs') [] one two = absurd (more_unread y ys two)
seen_unread (t ∷ ts) (x ∷ xs) (y ∷ ys) (x' ∷ xs') (y' ∷ ys') one two =
    ap (λ (r : Reel). r ∷ pair_reels ts xs' ys') (pair_unread t x y x' y' (head_unread x' x xs' xs one) (head_unread y' y ys' ys two))
    ∙ ap (λ (rs : List Reel). pair_reel t x y ∷ rs) (seen_unread ts xs ys xs' ys' (tail_unread x' x xs' xs one) (tail_unread y' y ys' ys two))

pub paired_unread : (ts : List Standing) (xs ys xs' ys' : List Reel) → map unread xs' ≡ map unread xs → map unread ys' ≡ map unread ys
    → ArePaired ts xs ys → ArePaired ts xs' ys'
paired_unread [] [] [] [] [] one two paired = tt
paired_unread [] [] [] [] (y ∷ ys') one two paired = absurd (more_unread y ys' (sym two))
paired_unread [] [] [] (x ∷ xs') ys' one two paired = absurd (more_unread x xs' (sym one))
paired_unread [] [] (b ∷ ys) xs' ys' one two paired = absurd paired
paired_unread [] (a ∷ xs) ys xs' ys' one two paired = absurd paired
paired_unread (t ∷ ts) [] ys xs' ys' one two paired = absurd paired
paired_unread (t ∷ ts) (x ∷ xs) [] xs' ys' one two paired = absurd paired
paired_unread (t ∷ ts) (x ∷ xs) (y ∷ ys) [] ys' one two paired = absurd (more_unread x xs one)
paired_unread (t ∷ ts) (x ∷ xs) (y ∷ ys) (x' ∷ xs') [] one two paired = absurd (more_unread y ys two)
paired_unread (t ∷ ts) (x ∷ xs) (y ∷ ys) (x' ∷ xs') (y' ∷ ys') one two (twins, rest) = (
  twins_unread t x y x' y' (head_unread x' x xs' xs one) (head_unread y' y ys' ys two) twins,
  paired_unread ts xs ys xs' ys' (tail_unread x' x xs' xs one) (tail_unread y' y ys' ys two) rest,
)

pub labels_unread : (xs xs' : List Reel) → map unread xs' ≡ map unread xs → map (λ (r : Reel). r.serial) xs' ≡ map (λ (r : Reel). r.serial) xs
labels_unread [] [] one = refl
labels_unread [] (x ∷ xs') one = absurd (more_unread x xs' (sym one))
labels_unread (x ∷ xs) [] one = absurd (more_unread x xs one)
labels_unread (x ∷ xs) (x' ∷ xs') one =
    ap (λ (n : ℕ). n ∷ map (λ (r : Reel). r.serial) xs') (ap (λ (r : Reel). r.serial) (head_unread x' x xs' xs one))
    ∙ ap (λ (ns : List ℕ). x.serial ∷ ns) (labels_unread xs xs' (tail_unread x' x xs' xs one))

-- what is seen counts no reads
pub seen_counts_none : (s k : ℕ) (ts : List Standing) (xs ys : List Reel) → with_reel s (read_at k) (pair_reels ts xs ys) ≡ pair_reels ts xs ys
seen_counts_none s k [] xs ys = refl
seen_counts_none s k (t ∷ ts) [] ys = refl
seen_counts_none s k (t ∷ ts) (a ∷ xs) [] = refl
seen_counts_none s k (t ∷ ts) (a ∷ xs) (b ∷ ys) =
    elim (eqb_tells s a.serial) [
      | inl here ↦ rw here.0 refl
      | inr apart ↦ rw apart.0 (ap (λ (rs : List Reel). pair_reel t a b ∷ rs) (seen_counts_none s k ts xs ys))
    ]
