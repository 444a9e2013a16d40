-- The best of the dumps that were checked so far.
-- serves: greatest
use Rattle.std.proofs.Common.{◌≡◌, ◌⊎◌, ℕ, ◌+◌, ◌<◌, ◌≤◌, true, false, List, length, get_or, Option, Some, None, sym, ◌∙◌, ap, arith, inl, inr, subst, below_more}
use Rattle.std.specs.Prelude.{nat_lt}
use Rattle.std.proofs.lemmas.Bool.{cases_Bool, cond-false, cond-true, false≢true, ltb-false, ltb-true}
use Rattle.std.proofs.lemmas.List.{get_or_read}
use Rattle.g_restore.specs.declared.dumps.Found.{Found}
use Rattle.g_restore.specs.Gathering.{IsBest, IsBestOf, newer_holder, newer_of, number_in, holds_directory}

pub none_best : (user : Option ℕ) (found : List Found) → IsBestOf user found 0 None
none_best user found = λ k d below passed. let no : ⊥ = omega (arith, below) in no

module _ (user : Option ℕ) (found : List Found) (i : ℕ) (x : Found) (here : (d : Found) → x ≡ get_or found i d) where
  -- what holds at every place before holds at the next one too
  low_behind : (n : ℕ) → (holds_directory user x ≡ true → number_in x ≤ n)
      → ((k : ℕ) (d : Found) → k < i → holds_directory user (get_or found k d) ≡ true → number_in (get_or found k d) ≤ n)
      → (k : ℕ) (d : Found) → k < i + 1 → holds_directory user (get_or found k d) ≡ true → number_in (get_or found k d) ≤ n
  low_behind n low before k d below passed =
      below_more (λ j. holds_directory user (get_or found j d) ≡ true → number_in (get_or found j d) ≤ n) i
      (λ j lt is. before j d lt is)
      (subst (λ (f : Found). holds_directory user f ≡ true → number_in f ≤ n) (here d) low)
      k below passed

  -- the one before stays the best
  stays : (b : ℕ × ℕ) → (holds_directory user x ≡ true → number_in x ≤ b.1) → IsBest user found i b → IsBest user found (i + 1) b
  stays b low is =
      let within = is.within in
      record { within = omega arith; number_is = is.number_is; passes_is = is.passes_is; most = low_behind b.1 low is.most }

  -- the new one is
  comes : holds_directory user x ≡ true → ((k : ℕ) (d : Found) → k < i → holds_directory user (get_or found k d) ≡ true → number_in (get_or found k d) ≤ number_in x)
      → IsBest user found (i + 1) (i, number_in x)
  comes passed before = record {
    within = omega arith;
    number_is = λ d. ap number_in (sym (here d));
    passes_is = λ d. ap (holds_directory user) (sym (here d)) ∙ passed;
    most = low_behind (number_in x) (λ is. omega arith) before;
  }

  passed_over : (best : Option (ℕ × ℕ)) → holds_directory user x ≡ false → IsBestOf user found i best → IsBestOf user found (i + 1) best
  passed_over None isnt none = λ k d below passed.
      below_more (λ j. holds_directory user (get_or found j d) ≡ true → ⊥) i (λ j lt is. none j d lt is)
      (subst (λ (f : Found). holds_directory user f ≡ true → ⊥) (here d) (λ is. false≢true (sym isnt ∙ is)))
      k below passed
  passed_over (Some b) isnt is = stays b (λ passed. absurd (false≢true (sym isnt ∙ passed))) is

  taken : (best : Option (ℕ × ℕ)) → holds_directory user x ≡ true → IsBestOf user found i best → IsBestOf user found (i + 1) (newer_of best i (number_in x))
  taken None passed none = comes passed (λ k d below is. absurd (none k d below is))
  taken (Some b) passed is = by_number (cases_Bool (nat_lt b.1 (number_in x)))
    where
      by_number : (nat_lt b.1 (number_in x) ≡ true) ⊎ (nat_lt b.1 (number_in x) ≡ false) → IsBestOf user found (i + 1) (newer_of (Some b) i (number_in x))
      by_number (inl less) =
          let below : b.1 < number_in x = ltb-true b.1 (number_in x) less in
          subst (IsBestOf user found (i + 1)) (sym (cond-true (nat_lt b.1 (number_in x)) (Some (i, number_in x)) (Some b) less))
          (comes passed (λ k d lt is_k. let most = is.most k d lt is_k in omega (arith, below, most)))
      by_number (inr isnt) =
          let most : number_in x ≤ b.1 = ltb-false b.1 (number_in x) isnt in
          subst (IsBestOf user found (i + 1)) (sym (cond-false (nat_lt b.1 (number_in x)) (Some (i, number_in x)) (Some b) isnt))
          (stays b (λ is_x. most) is)

pub one_more : (user : Option ℕ) (found : List Found) (i : ℕ) (best : Option (ℕ × ℕ)) (x : Found) → i < length found → x ≡ get_or found i x
    → IsBestOf user found i best → IsBestOf user found (i + 1) (newer_holder user best i x)
one_more user found i best x within at so = by_pass (cases_Bool (holds_directory user x))
  where
    here : (d : Found) → x ≡ get_or found i d
    here d = get_or_read found i x within at d

    by_pass : (holds_directory user x ≡ true) ⊎ (holds_directory user x ≡ false) → IsBestOf user found (i + 1) (newer_holder user best i x)
    by_pass (inl passed) =
        subst (IsBestOf user found (i + 1)) (sym (cond-true (holds_directory user x) (newer_of best i (number_in x)) best passed)) (taken user found i x here best passed so)
    by_pass (inr isnt) =
        subst (IsBestOf user found (i + 1)) (sym (cond-false (holds_directory user x) (newer_of best i (number_in x)) best isnt)) (passed_over user found i x here best isnt so)
