-- What calls preserve of a file's first bytes, and its last block.
-- serves: cut_at (cut, done), extend (front), fill (last), put_once (front), write_again, BlockFileLemmas, RiskLemmas, SectorLemmas
use Rattle.std.proofs.Common.{◌≡◌, ℕ, ◌+◌, ◌-◌, ◌<◌, ◌≤◌, List, ◌++◌, length, take, drop, replicate, get_or, Result, Ok, Err, OnOk, Some, None, refl, sym, ap, subst, ◌∙◌, inl, inr, arith, length-append, length-take}
use Rattle.std.specs.Prelude.{Option}
use Rattle.std.specs.Option.{ForSome}
use Rattle.std.proofs.lemmas.List.{ext_get_or, length-replicate, length-take-le, take-append-le, take-take, take_all}
use Rattle.g_base.specs.ToldContent.{Changes}
use Rattle.g_base.proofs.ToldLemmas.{Changes-back}
use Rattle.g_files.specs.Bytes.{padded, part, put}
use Rattle.g_files.specs.Calls.{HasCut, HasWritten, HasWrittenAll, IsMixed}
use Rattle.g_files.specs.Front.{IsCut, KeepsFront}
use Rattle.g_files.proofs.BytesLemmas.{get-part, get-put_in, length-part, length-put_any, length-put_least}
use Rattle.g_files.proofs.CallLemmas.{any_mixed, mixed_same}

-- LENGTHS THAT ARE SET

pub length-padded : (n : ℕ) (b : List ℕ) → length (padded n b) ≡ n
length-padded n b = omega (arith, length-take n (b ++ replicate (n - length b) 0), length-append b (replicate (n - length b) 0), length-replicate {A = ℕ} (n - length b) 0)

padded_take : (n : ℕ) (b : List ℕ) → n ≤ length b → padded n b ≡ take n b
padded_take n b within = take-append-le n b (replicate (n - length b) 0) within

-- FRONTS

pub keeps_refl : (n : ℕ) (b : List ℕ) → n ≤ length b → KeepsFront n b b
keeps_refl n b long = record { long = long; same = refl }

pub keeps_then : (n : ℕ) (x y z : List ℕ) → KeepsFront n x y → KeepsFront n y z → KeepsFront n x z
keeps_then n x y z first second = record { long = second.long; same = second.same ∙ first.same }

pub keeps_less : (n m : ℕ) (x y : List ℕ) → n ≤ m → KeepsFront m x y → KeepsFront n x y
keeps_less n m x y less keeps = record {
  long = (let long = keeps.long in omega (arith, less, long));
  same = sym (take-take n m y less) ∙ ap (take n) keeps.same ∙ take-take n m x less;
}

pub keeps_padded : (n m : ℕ) (b : List ℕ) → n ≤ m → n ≤ length b → KeepsFront n b (padded m b)
keeps_padded n m b few long = record {
  long = omega (arith, few, length-padded m b);
  same = take-take n m (b ++ replicate (m - length b) 0) few ∙ take-append-le n b (replicate (m - length b) 0) long;
}

keeps_put : (n : ℕ) (p b : List ℕ) → n ≤ length b → KeepsFront n b (put n p b)
keeps_put n p b long =
    let size = length-take-le n b long in
    let both = length-append (take n b) p in record {
      long = (let least = length-put_least n p b long in omega (arith, least));
      same = take-append-le n (take n b ++ p) (drop (n + length p) b) (omega (arith, both, size)) ∙ take-append-le n (take n b) p (omega (arith, size))
          ∙ take-take n n b (omega arith);
    }

pub cut_keeps : (n : ℕ) (x y : List ℕ) → IsCut n x y → KeepsFront n x y
cut_keeps n x y (m, few, long, is) = record {
  long = omega (arith, few, ap length is, length-take-le m x long);
  same = ap (take n) is ∙ take-take n m x few;
}

-- CALLS

pub set_cuts : {E : Type 0} (n : ℕ) (r : Result (Unit {0}) E) (b a : List ℕ) → n ≤ length b → HasCut n r b a → IsCut n b a
set_cuts n (Ok done) b a long is = (n, omega arith, long, is ∙ padded_take n b long)
set_cuts n (Err e) b a long (inl same) = (length b, long, omega arith, same ∙ sym (take_all (length b) b (omega arith)))
set_cuts n (Err e) b a long (inr is) = (n, omega arith, long, is ∙ padded_take n b long)

pub set_long : {E : Type 0} (n : ℕ) (r : Result (Unit {0}) E) (x y : Option (List ℕ)) → Changes (HasCut n r) x y → OnOk r (ForSome y (λ b. length b ≡ n))
set_long {E = E} n (Ok done) x y c = λ b is. let f = Changes-back (HasCut {E = E} n (Ok done)) x y c b is in ap length f.2 ∙ length-padded n f.0
set_long n (Err e) x y c = tt

pub set_keeps : {E : Type 0} (n m : ℕ) (r : Result (Unit {0}) E) (b a : List ℕ) → n ≤ m → n ≤ length b → HasCut m r b a → KeepsFront n b a
set_keeps n m (Ok done) b a few long is = subst (KeepsFront n b) (sym is) (keeps_padded n m b few long)
set_keeps n m (Err e) b a few long (inl same) = subst (KeepsFront n b) (sym same) (record { long = long; same = refl })
set_keeps n m (Err e) b a few long (inr is) = subst (KeepsFront n b) (sym is) (keeps_padded n m b few long)

pub once_keeps : {E : Type 0} (n : ℕ) (p : List ℕ) (r : Result ℕ E) (b a : List ℕ) → n ≤ length b → HasWritten n p r b a → KeepsFront n b a
once_keeps n p (Ok count) b a long is = subst (KeepsFront n b) (sym is) (keeps_put n (take count p) b long)
once_keeps n p (Err e) b a long (left, mixed, is) = subst (KeepsFront n b) (sym is) (keeps_put n left b long)

pub write_keeps : {E : Type 0} (n : ℕ) (p : List ℕ) (r : Result (Unit {0}) E) (b a : List ℕ) → n ≤ length b → HasWrittenAll n p r b a → KeepsFront n b a
write_keeps n p r b a long is = let m = any_mixed n p b a r is in subst (KeepsFront n b) (sym m.2) (keeps_put n m.0 b long)

-- what follows of a change, from what is known of the content before it
pub changes_to : {X : Type 0} {R S : X → X → Type 0} (P : X → Type 0) (x y : Option X) → ForSome x P → ((b a : X) → P b → R b a → S b a) → Changes R x y → Changes S x y
changes_to P x y known step c = record {
  told = λ b is. let t = c.told b is in (t.0, t.1, step b t.0 (known b is) t.2);
  untold = c.untold;
}

-- one change after another
pub changes_then : {X : Type 0} {R S T : X → X → Type 0} (x y z : Option X) → ((a b c : X) → R a b → S b c → T a c) → Changes R x y → Changes S y z → Changes T x z
changes_then x y z step first second = record {
  told = λ b is. let one = first.told b is in let two = second.told one.0 one.1 in (two.0, two.1, step b one.0 two.0 one.2 two.2);
  untold = λ is. second.untold (first.untold is);
}

-- no change
pub changes_none : {X : Type 0} {R : X → X → Type 0} (P : X → Type 0) (x y : Option X) → ForSome x P → y ≡ x → ((b : X) → P b → R b b) → Changes R x y
changes_none P x y known same step = record {
  told = λ b is. (b, same ∙ is, step b (known b is));
  untold = λ is. same ∙ is;
}

-- THE LAST BLOCK

-- a block that was written at the end is there
last_put : (n : ℕ) (p b a : List ℕ) → length p ≡ 512 → n ≤ length b → length b ≤ n + 512 → a ≡ put n p b → (length a ≡ n + 512) × (part n 512 a ≡ p)
last_put n p b a size start end is =
    let long : length a ≡ n + 512 = ap length is ∙ omega (arith, length-put_any n p b start, size, end) in
    let whole = length-part n 512 a (omega (arith, long)) in (
      long,
      ext_get_or 0 (part n 512 a) p (whole ∙ sym size) (λ i h.
          let below : i < 512 = omega (arith, h, whole) in
          get-part n 512 i 0 a below ∙ ap (λ (f : List ℕ). get_or f (n + i) 0) is
          ∙ get-put_in n (n + i) 0 p b start (omega arith) (omega (arith, below, size)) ∙ ap (λ (j : ℕ). get_or p j 0) (omega arith)),
    )

pub once_long : {E : Type 0} (n : ℕ) (p : List ℕ) (r : Result ℕ E) (x y : Option (List ℕ)) → length p ≡ 512 → ForSome x (λ b. n ≤ length b)
    → ForSome x (λ b. length b < n + 512) → r ≡ Ok 512 → Changes (HasWritten n p r) x y → ForSome y (λ b. (length b ≡ n + 512) × (part n 512 b ≡ p))
once_long {E = E} n p r x y size long ends whole c = λ a is.
    let f = Changes-back (HasWritten n p r) x y c a is in
    let written : a ≡ put n (take 512 p) f.0 = subst (λ (q : Result ℕ E). HasWritten n p q f.0 a) whole f.2 in
    let all : take 512 p ≡ p = take_all 512 p (omega (arith, size)) in
    let end = ends f.0 f.1 in
    last_put n p f.0 a size (long f.0 f.1) (omega (arith, end)) (written ∙ ap (λ (q : List ℕ). put n q f.0) all)

pub fill_long : {E : Type 0} (n : ℕ) (p : List ℕ) (r : Result (Unit {0}) E) (x y : Option (List ℕ)) → length p ≡ 512 → ForSome x (λ b. length b ≡ n + 512)
    → Changes (HasWrittenAll n p r) x y → OnOk r (ForSome y (λ b. (length b ≡ n + 512) × (part n 512 b ≡ p)))
fill_long {E = E} n p (Ok done) x y size long c = λ a is.
    let f = Changes-back (HasWrittenAll {E = E} n p (Ok done)) x y c a is in
    let whole = long f.0 f.1 in
    last_put n p f.0 a size (omega (arith, whole)) (omega (arith, whole)) f.2
fill_long n p (Err e) x y size long c = tt

-- A REWRITTEN BLOCK

-- a block that is written as it is
pub same_rewritten : {E : Type 0} (n : ℕ) (p : List ℕ) (r : Result (Unit {0}) E) (x y : Option (List ℕ)) → ForSome x (λ b. n + 512 ≤ length b)
    → ForSome x (λ b. p ≡ part n 512 b) → Changes (HasWrittenAll n p r) x y → y ≡ x
same_rewritten n p r None y long is c = c.untold refl
same_rewritten n p r (Some b) y long is c =
    let t = c.told b refl in
    t.1 ∙ ap (λ (z : List ℕ). Some z) (mixed_same n 512 b t.0 (long b refl)
    (subst (λ q. IsMixed n q b t.0) (is b refl) (any_mixed n p b t.0 r t.2)))
