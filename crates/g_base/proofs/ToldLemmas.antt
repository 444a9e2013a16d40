-- How changes of exposed content compose, and what follows from them.
-- serves: crates above
use Rattle.std.proofs.Common.{◌≡◌, ℕ, List, Option, Some, None, refl, sym, ◌∙◌, ap, subst}
use Rattle.std.proofs.Math.ListN.{set}
use Rattle.g_base.specs.Block.{with_block}
use Rattle.g_base.specs.ToldContent.{Changes}

not_told : {X : Type 0} (a : X) → (let none : Option X = None in none ≡ Some a) → ⊥
not_told a e = cc

inside : {X : Type 0} (a b : X) → (let one : Option X = Some a in one ≡ Some b) → a ≡ b
inside a b e = cc

-- nothing happened
pub Changes-none : {X : Type 0} (R : X → X → Type 0) (before now : Option X) → now ≡ before → ((b : X) → before ≡ Some b → R b b) → Changes R before now
Changes-none R before now is each = record {
  told = λ b was. (b, is ∙ was, each b was);
  untold = λ none. is ∙ none;
}

-- one block was written
pub Changes-with_block : (R : List (List ℕ) → List (List ℕ) → Type 0) (k : ℕ) (v : List ℕ) (before now : Option (List (List ℕ))) → now ≡ with_block k v before → ((b : List (List ℕ)) → before ≡ Some b → R b (set b k v)) → Changes R before now
Changes-with_block R k v before now is each = record {
  told = λ b was. (set b k v, is ∙ ap (with_block k v) was, each b was);
  untold = λ none. is ∙ ap (with_block k v) none;
}

-- one change after another
pub Changes-then : {X : Type 0} {R S T : X → X → Type 0} {x y z : Option X} → Changes R x y → Changes S y z → ((a b c : X) → x ≡ Some a → R a b → S b c → T a c) → Changes T x z
Changes-then first second both = record {
  told = λ a was.
      let mid = first.told a was in
      let end = second.told mid.0 mid.1 in (end.0, end.1, both a mid.0 end.0 was mid.2 end.2);
  untold = λ none. second.untold (first.untold none);
}

-- what is weaker, from what is known of the content before
pub Changes-weaken : {X : Type 0} {R S : X → X → Type 0} {x y : Option X} → Changes R x y → ((a b : X) → x ≡ Some a → R a b → S a b) → Changes S x y
Changes-weaken first weaker = record {
  told = λ a was. let mid = first.told a was in (mid.0, mid.1, weaker a mid.0 was mid.2);
  untold = first.untold;
}

-- Content that is exposed now was exposed before.
pub Changes-back : {X : Type 0} (R : X → X → Type 0) (x y : Option X) → Changes R x y → (a : X) → y ≡ Some a → (b : X) × (x ≡ Some b) × R b a
Changes-back R None y all a now = absurd (not_told a (sym (all.untold refl) ∙ now))
Changes-back R (Some b) y all a now =
    let end = all.told b refl in (b, refl, subst (R b) (inside end.0 a (sym end.1 ∙ now)) end.2)

-- What holds of the content after a change.
pub told_after : {X : Type 0} {R : X → X → Type 0} {x y : Option X} {P : X → Type 0} → Changes R x y → ((b a : X) → x ≡ Some b → R b a → P a) → (a : X) → y ≡ Some a → P a
told_after {R = R} {x = x} {y = y} all each a now =
    let from = Changes-back R x y all a now in each from.0 a from.1 from.2

-- What holds of the content after one write.
pub told_after_write : (P : List (List ℕ) → Type 0) (k : ℕ) (v : List ℕ) (before now : Option (List (List ℕ))) → now ≡ with_block k v before → ((b : List (List ℕ)) → before ≡ Some b → P (set b k v)) → (a : List (List ℕ)) → now ≡ Some a → P a
told_after_write P k v None now is each a told = absurd (not_told a (sym is ∙ told))
told_after_write P k v (Some b) now is each a told = subst P (inside (set b k v) a (sym is ∙ told)) (each b refl)
