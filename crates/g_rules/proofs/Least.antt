-- The least of the standings that the pass has visited.
-- serves: choose (chosen), crates above
use Rattle.std.proofs.Common.{◌≡◌, ℕ, ◌+◌, ◌<◌, ◌≤◌, ◌⊎◌, List, Option, Some, None, length, MatchOption, IfSome, slice_get, inl, inr, sym, subst, ap, arith}
use Rattle.std.proofs.lemmas.Option.{slice_get_within}
use Rattle.std.specs.Fn.{Shared, FnReturnsAt}
use denote.Ref.{Bor}
use Rattle.g_rules.specs.declared.rule.Standing.{Standing}
use Rattle.g_rules.specs.declared.choice.Candidate.{Candidate}
use Rattle.g_rules.specs.Choice.{IsChosen, IsNoLater}

IsNoLater-trans : (weight number weight' number' weight'' number'' : ℕ) → IsNoLater weight number weight' number' → IsNoLater weight' number' weight'' number'' → IsNoLater weight number weight'' number''
IsNoLater-trans w n w' n' w'' n'' (inl a) (inl b) = inl (omega arith)
IsNoLater-trans w n w' n' w'' n'' (inl a) (inr b) = inl (omega arith)
IsNoLater-trans w n w' n' w'' n'' (inr a) (inl b) = inl (omega arith)
IsNoLater-trans w n w' n' w'' n'' (inr a) (inr b) = inr (omega arith, omega arith)

below_or_last : (k n : ℕ) → k < n + 1 → (k < n) ⊎ (k ≡ n)
below_or_last k n h = search arith

module _ {U : Type 0} (calls : Shared U (Bor Standing × Unit {0}) ℕ) (rule : U) (list : List Standing) where
  -- the candidate is a standing of the list with its weight, and none of the first n goes before it
  pub record IsLeast (n : ℕ) (best : Candidate) : Type 0 where
    pub standing : Standing
    pub there : slice_get list best.place ≡ Some standing
    pub number : standing.number ≡ best.number
    pub weighed : FnReturnsAt calls rule standing best.weight
    pub least : (k : ℕ) (other : Standing) → k < n → slice_get list k ≡ Some other → (weight : ℕ) × FnReturnsAt calls rule other weight × IsNoLater best.weight best.number weight other.number

  -- no standing was visited, or `best` is the least of those visited
  abbrev pub IsBestOf : ℕ → Option Candidate → Type 0
  IsBestOf n best = MatchOption best (n ≡ 0) (λ b. IsLeast n b)

  -- after the whole list, the least standing is the chosen one
  pub IsChosen-from_least : (n : ℕ) (best : Candidate) → IsLeast n best → length list ≤ n → IsChosen calls rule list best.place
  IsChosen-from_least n best is whole = record {
    standing = is.standing;
    weight = best.weight;
    there = is.there;
    weighed = is.weighed;
    least = λ k other at.
        let in_list : k < length list = slice_get_within list k other at in
        let in_seen : k < n = omega arith in
        let (weight, weighs, later) = is.least k other in_seen at in
        (weight, weighs, subst (λ m. IsNoLater best.weight m weight other.number) (sym is.number) later);
  }

  -- none of the first n precedes a candidate that is no later than their best
  least-below : (n : ℕ) (best : Option Candidate) (kept : Candidate) → IsBestOf n best → IfSome best (λ b. IsNoLater kept.weight kept.number b.weight b.number) → (k : ℕ) (other : Standing) → k < n → slice_get list k ≡ Some other → (weight : ℕ) × FnReturnsAt calls rule other weight × IsNoLater kept.weight kept.number weight other.number
  least-below n None kept is before k other below at = absurd (omega arith)
  least-below n (Some b) kept is before k other below at =
      let (weight, weighs, later) = is.least k other below at in
      (weight, weighs, IsNoLater-trans _ _ _ _ _ _ before later)

  -- one more standing was visited, and the kept candidate is no later than it and the best so far
  least-more : (n : ℕ) (best : Option Candidate) (seen : Standing) (weight : ℕ) (kept : Candidate) → IsBestOf n best → slice_get list n ≡ Some seen → FnReturnsAt calls rule seen weight → IsNoLater kept.weight kept.number weight seen.number → IfSome best (λ b. IsNoLater kept.weight kept.number b.weight b.number) → (k : ℕ) (other : Standing) → k < n + 1 → slice_get list k ≡ Some other → (w : ℕ) × FnReturnsAt calls rule other w × IsNoLater kept.weight kept.number w other.number
  least-more n best seen weight kept is at weighs before before_best k other below at' =
      elim (below_or_last k n below) [
        | inl h ↦ least-below n best kept is before_best k other h at'
        | inr h ↦
            let here : slice_get list n ≡ Some other = subst (λ j. slice_get list j ≡ Some other) h at' in
            let same : seen ≡ other = cc in
            subst (λ s. (w : ℕ) × FnReturnsAt calls rule s w × IsNoLater kept.weight kept.number w s.number) same (weight, weighs, before)
      ]

  -- the earlier of the best so far and one more standing is the best of both
  pub IsLeast-more : (n : ℕ) (best : Option Candidate) (seen : Standing) (weight : ℕ) (kept : Candidate) → IsBestOf n best → slice_get list n ≡ Some seen → FnReturnsAt calls rule seen weight → (kept ≡ record { place = n; weight = weight; number = seen.number }) ⊎ (best ≡ Some kept) → IsNoLater kept.weight kept.number weight seen.number → IfSome best (λ b. IsNoLater kept.weight kept.number b.weight b.number) → IsLeast (n + 1) kept
  IsLeast-more n best seen weight kept is at weighs (inl new) before before_best =
      record {
        standing = seen;
        there = subst (λ (c : Candidate). slice_get list c.place ≡ Some seen) (sym new) at;
        number = sym (ap (λ (c : Candidate). c.number) new);
        weighed = subst (λ (c : Candidate). FnReturnsAt calls rule seen c.weight) (sym new) weighs;
        least = least-more n best seen weight kept is at weighs before before_best;
      }
  IsLeast-more n best seen weight kept is at weighs (inr old) before before_best =
      let was : IsLeast n kept = subst (λ b. IsBestOf n b) old is in
      record {
        standing = was.standing;
        there = was.there;
        number = was.number;
        weighed = was.weighed;
        least = least-more n best seen weight kept is at weighs before before_best;
      }
