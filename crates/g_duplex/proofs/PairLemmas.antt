-- What is done to the twins of one serial is done to the reel that is seen of them.
-- serves: CopyLemmas, DurableLemmas, LoseLemmas, MountLemmas, ReadLemmas, RebuildLemmas, RiskLemmas, SecureLemmas, WriteLemmas
use Rattle.std.proofs.Common.{◌≡◌, ℕ, List, [], ◌∷◌, true, false, ◌==◌, Option, Some, None, refl, sym, ap, ◌∙◌, inl, inr, eq-eqb, subst, length, map, arith}
use Rattle.std.proofs.lemmas.Bool.{ne_eqb}
use Rattle.std.proofs.lemmas.Bool.Decides.{eqb_tells}
use Rattle.g_base.proofs.KeyLemmas.{change-same, map-change_same}
use Rattle.g_tape.specs.Reel.{Reel}
use Rattle.g_tape.specs.Rack.{reel, with_reel}
use Rattle.g_duplex.specs.Twins.{AreTwins, pair_reel}
use Rattle.g_duplex.specs.Pair.{ArePaired, pair_reels, standing, with_standing}
use Rattle.g_duplex.specs.declared.twin.Standing.{Standing}
use Rattle.g_duplex.proofs.PlaceLemmas.{standing_none}

-- the twins of serial s
pub record AreAt (s : ℕ) (t : Standing) (a b : Reel) (ts : List Standing) (xs ys : List Reel) : Type 0 where
  pub standing : standing s xs ts ≡ Some t
  pub first : reel s xs ≡ Some a
  pub second : reel s ys ≡ Some b

-- and with a pair of another serial before them
at_behind : (s : ℕ) (t u : Standing) (a b c d : Reel) (ts : List Standing) (xs ys : List Reel) → (s == c.serial) ≡ false → (s == d.serial) ≡ false
    → AreAt s t a b ts xs ys → AreAt s t a b (u ∷ ts) (c ∷ xs) (d ∷ ys)
at_behind s t u a b c d ts xs ys apart apart' at = record { standing = rw apart at.standing; first = rw apart at.first; second = rw apart' at.second }

-- what is seen of a changed pair
pub pair_changed : (s : ℕ) (g h f : Reel → Reel) (c : Standing → Standing) (ts : List Standing) (xs ys : List Reel) → ArePaired ts xs ys
    → ((t : Standing) (a b : Reel) → AreTwins t a b → AreAt s t a b ts xs ys → pair_reel (c t) (g a) (h b) ≡ f (pair_reel t a b))
    → pair_reels (with_standing s c xs ts) (with_reel s g xs) (with_reel s h ys) ≡ with_reel s f (pair_reels ts xs ys)
pair_changed s g h f c [] [] [] paired each = refl
pair_changed s g h f c [] [] (b ∷ ys) paired each = absurd paired
pair_changed s g h f c [] (a ∷ xs) ys paired each = absurd paired
pair_changed s g h f c (t ∷ ts) [] ys paired each = absurd paired
pair_changed s g h f c (t ∷ ts) (a ∷ xs) [] paired each = absurd paired
pair_changed s g h f c (t ∷ ts) (a ∷ xs) (b ∷ ys) (twins, rest) each =
    elim (eqb_tells s a.serial) [
      | inl here ↦
          let here' : (s == b.serial) ≡ true = eq-eqb s b.serial (here.1 ∙ twins.serial) in
          let seen : pair_reel (c t) (g a) (h b) ≡ f (pair_reel t a b) =
          each t a b twins (record { standing = rw here.0 refl; first = rw here.0 refl; second = rw here' refl }) in
          rw (here.0, here', seen) refl
      | inr apart ↦
          let apart' : (s == b.serial) ≡ false = ne_eqb s b.serial (λ e. apart.1 (e ∙ sym twins.serial)) in
          let others = pair_changed s g h f c ts xs ys rest (λ t' a' b' is at. each t' a' b' is (at_behind s t' t a' b' a b ts xs ys apart.0 apart' at)) in
          rw (apart.0, apart', others) refl
    ]

-- the reel that is seen of a serial
pub seen_at : (s : ℕ) (t : Standing) (a b : Reel) (ts : List Standing) (xs ys : List Reel) → ArePaired ts xs ys → AreAt s t a b ts xs ys
    → reel s (pair_reels ts xs ys) ≡ Some (pair_reel t a b)
seen_at s t a b [] [] ys paired at = let never : None ≡ Some a = at.first in absurd (cc)
seen_at s t a b [] (c ∷ xs) ys paired at = absurd paired
seen_at s t a b (u ∷ ts) [] ys paired at = absurd paired
seen_at s t a b (u ∷ ts) (c ∷ xs) [] paired at = absurd paired
seen_at s t a b (u ∷ ts) (c ∷ xs) (d ∷ ys) (twins, rest) at =
    elim (eqb_tells s c.serial) [
      | inl here ↦
          let here' : (s == d.serial) ≡ true = eq-eqb s d.serial (here.1 ∙ twins.serial) in
          let is : Some u ≡ Some t = rw here.0 at at.standing in
          let ia : Some c ≡ Some a = rw here.0 at at.first in
          let ib : Some d ≡ Some b = rw here' at at.second in
          rw here.0 cc
      | inr apart ↦
          let apart' : (s == d.serial) ≡ false = ne_eqb s d.serial (λ e. apart.1 (e ∙ sym twins.serial)) in
          rw apart.0 (seen_at s t a b ts xs ys rest (record { standing = rw apart.0 at at.standing; first = rw apart.0 at at.first; second = rw apart' at at.second }))
    ]

-- a serial of the first rack has twins
pub at_of : (s : ℕ) (a : Reel) (ts : List Standing) (xs ys : List Reel) → ArePaired ts xs ys → reel s xs ≡ Some a
    → (t : Standing) × (b : Reel) × AreTwins t a b × AreAt s t a b ts xs ys
at_of s a [] [] ys paired is = absurd (cc)
at_of s a [] (c ∷ xs) ys paired is = absurd paired
at_of s a (u ∷ ts) [] ys paired is = absurd paired
at_of s a (u ∷ ts) (c ∷ xs) [] paired is = absurd paired
at_of s a (u ∷ ts) (c ∷ xs) (d ∷ ys) (twins, rest) is =
    elim (eqb_tells s c.serial) [
      | inl here ↦
          let here' : (s == d.serial) ≡ true = eq-eqb s d.serial (here.1 ∙ twins.serial) in
          let same : Some c ≡ Some a = rw here.0 at is in
          let one : c ≡ a = cc in
          (u, d, subst (λ (x : Reel). AreTwins u x d) one twins, record { standing = rw here.0 refl; first = rw here.0 same; second = rw here' refl })
      | inr apart ↦
          let apart' : (s == d.serial) ≡ false = ne_eqb s d.serial (λ e. apart.1 (e ∙ sym twins.serial)) in
          let (t, b, are, at) = at_of s a ts xs ys rest (rw apart.0 at is) in
          (t, b, are, at_behind s t u a b c d ts xs ys apart.0 apart' at)
    ]

-- The same for a reel whose standing is known.
pub at_standing : (s : ℕ) (t : Standing) (ts : List Standing) (xs ys : List Reel) → ArePaired ts xs ys → standing s xs ts ≡ Some t
    → (a : Reel) × (b : Reel) × AreTwins t a b × AreAt s t a b ts xs ys
at_standing s t ts xs ys paired is = by_reel (reel s xs) refl
  where
    by_reel : (o : Option Reel) → reel s xs ≡ o → (a : Reel) × (b : Reel) × AreTwins t a b × AreAt s t a b ts xs ys
    by_reel None none = let never : None ≡ Some t = sym (standing_none s xs ts none) ∙ is in absurd (cc)
    by_reel (Some a) there =
        let (u, b, twins, at) = at_of s a ts xs ys paired there in
        let both : Some u ≡ Some t = sym at.standing ∙ is in
        let same : u ≡ t = cc in
        (a, b, subst (λ (x : Standing). AreTwins x a b) same twins, subst (λ (x : Standing). AreAt s x a b ts xs ys) same at)

-- Twins remain twins if those of one serial do.
pub paired_changed : (s : ℕ) (g h : Reel → Reel) (c : Standing → Standing) (ts : List Standing) (xs ys : List Reel) → ArePaired ts xs ys
    → ((t : Standing) (a b : Reel) → AreTwins t a b → AreAt s t a b ts xs ys → AreTwins (c t) (g a) (h b))
    → ArePaired (with_standing s c xs ts) (with_reel s g xs) (with_reel s h ys)
paired_changed s g h c [] [] [] paired each = tt
paired_changed s g h c [] [] (b ∷ ys) paired each = absurd paired
paired_changed s g h c [] (a ∷ xs) ys paired each = absurd paired
paired_changed s g h c (t ∷ ts) [] ys paired each = absurd paired
paired_changed s g h c (t ∷ ts) (a ∷ xs) [] paired each = absurd paired
paired_changed s g h c (t ∷ ts) (a ∷ xs) (b ∷ ys) (twins, rest) each =
    elim (eqb_tells s a.serial) [
      | inl here ↦
          let here' : (s == b.serial) ≡ true = eq-eqb s b.serial (here.1 ∙ twins.serial) in
          rw (here.0, here') (each t a b twins (record { standing = rw here.0 refl; first = rw here.0 refl; second = rw here' refl }), rest)
      | inr apart ↦
          let apart' : (s == b.serial) ≡ false = ne_eqb s b.serial (λ e. apart.1 (e ∙ sym twins.serial)) in
          let others = paired_changed s g h c ts xs ys rest (λ t' a' b' is at. each t' a' b' is (at_behind s t' t a' b' a b ts xs ys apart.0 apart' at)) in
          rw (apart.0, apart') (twins, others)
    ]

-- nothing is changed by a change that keeps
pub same_reels : (s : ℕ) (xs : List Reel) → with_reel s (λ (r : Reel). r) xs ≡ xs
same_reels s xs = change-same (λ (x : Reel). s == x.serial) (λ x. x) xs (λ x is. refl)

pub same_standings : (s : ℕ) (xs : List Reel) (ts : List Standing) → length ts ≡ length xs → with_standing s (λ (t : Standing). t) xs ts ≡ ts
same_standings s [] ts long = refl
same_standings s (x ∷ xs) [] long = let never : ⊥ = omega (arith, long) in absurd never
same_standings s (x ∷ xs) (t ∷ ts) long =
    elim (eqb_tells s x.serial) [
      | inl here ↦ rw here.0 refl
      | inr apart ↦ rw apart.0 (ap (λ (us : List Standing). t ∷ us) (same_standings s xs ts (omega (arith, long))))
    ]

-- labels stay
pub labels_kept : (s : ℕ) (g : Reel → Reel) → ((r : Reel) → (g r).serial ≡ r.serial) → (xs : List Reel) → map (λ (r : Reel). r.serial) (with_reel s g xs) ≡ map (λ (r : Reel). r.serial) xs
labels_kept s g keeps xs = map-change_same (λ (x : Reel). s == x.serial) g (λ (x : Reel). x.serial) keeps xs
