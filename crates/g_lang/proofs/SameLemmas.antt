-- Two conditions are the same if and only if they are equal.
-- serves: same_conditions_are_equal
use Rattle.std.proofs.Common.{◌≡◌, ◌↔◌, Bool, true, false, not, List, ℕ, refl, sym, ap, ◌∙◌, eq-eqb, eqb-true}
use Rattle.std.proofs.lemmas.Bool.{and_parts, and_from, false≢true}
use Rattle.std.specs.Prelude.{if◌then◌else◌}
use Rattle.g_lang.proofs.ValueLemmas.{same_text-refl, same_text-eq}
use Rattle.g_lang.specs.Conditions.{same_test, same_cond}
use Rattle.g_lang.specs.declared.line.Cond.{Cond}
use Rattle.g_lang.specs.declared.line.Test.{Test}
use Rattle.g_lang.specs.declared.line.Test.TheVariants.{Absent, CommandError, Deleted, Equals, Failed, Halted, Present}

same_equals : (l m : ℕ) (t u : List ℕ) → l ≡ m → t ≡ u → Equals l t ≡ Equals m u
same_equals l m t u letters texts = ap (λ (x : ℕ). Equals x t) letters ∙ ap (λ (x : List ℕ). Equals m x) texts

test_equal : (a b : Test) → same_test a b ≡ true → a ≡ b
test_equal CommandError CommandError e = refl
test_equal Failed Failed e = refl
test_equal (Halted t) (Halted u) e = ap Halted (same_text-eq t u e)
test_equal (Deleted t) (Deleted u) e = ap Deleted (same_text-eq t u e)
test_equal (Present l) (Present m) e = ap Present (eqb-true l m e)
test_equal (Absent l) (Absent m) e = ap Absent (eqb-true l m e)
test_equal (Equals l t) (Equals m u) e = same_equals l m t u (eqb-true l m (and_parts _ _ e).0) (same_text-eq t u (and_parts _ _ e).1)
test_equal a b e = absurd (false≢true e)

test_same : (a : Test) → same_test a a ≡ true
test_same CommandError = refl
test_same Failed = refl
test_same (Halted t) = same_text-refl t
test_same (Deleted t) = same_text-refl t
test_same (Present l) = eq-eqb l l refl
test_same (Absent l) = eq-eqb l l refl
test_same (Equals l t) = and_from _ _ (eq-eqb l l refl) (same_text-refl t)

-- both are negated, or neither
flag_equal : (m n : Bool) → (if m then n else not n) ≡ true → m ≡ n
flag_equal true n e = sym e
flag_equal false true e = e
flag_equal false false e = refl

flag_same : (n : Bool) → (if n then n else not n) ≡ true
flag_same true = refl
flag_same false = refl

abbrev cond_of : Bool → Test → Cond
cond_of negated test = record { negated = negated; test = test }

cond_equal : (a b : Cond) → same_cond a b ≡ true → a ≡ b
cond_equal a b e =
    let flags : a.negated ≡ b.negated = flag_equal a.negated b.negated (and_parts _ _ e).0 in
    let tests : a.test ≡ b.test = test_equal a.test b.test (and_parts _ _ e).1 in
    ap (λ (n : Bool). cond_of n a.test) flags ∙ ap (λ (t : Test). cond_of b.negated t) tests

cond_same : (a : Cond) → same_cond a a ≡ true
cond_same a = and_from _ _ (flag_same a.negated) (test_same a.test)

-- THE SAME CONDITION is an equal one
pub cond-same : (a b : Cond) → (same_cond a b ≡ true) ↔ (a ≡ b)
cond-same a b = (cond_equal a b, λ e. ap (λ (c : Cond). same_cond a c) (sym e) ∙ cond_same a)
