-- Candidates in order of stamp: those below a stamp are the first ones.
-- serves: PlanLemmas
use Rattle.std.proofs.Common.{◌≡◌, ℕ, zero, suc, ◌+◌, ◌<◌, ◌≤◌, List, [], ◌∷◌, length, get_or, take, sum_by, refl, sym, ◌∙◌, ap, arith, inl, inr, subst, if◌then◌else◌}
use Rattle.std.specs.Prelude.{◌⊎◌, All, nat_lt}
use Rattle.std.proofs.lemmas.Bool.{cases_lt, cases_order, cond-false, cond-true, le-ltb, lt-ltb}
use Rattle.std.proofs.lemmas.List.Elements.{All-head, All-tail}
use Rattle.std.proofs.lemmas.List.Sums.{sum_by-cons}
use Rattle.g_migrate.specs.declared.candidates.Candidate.{Candidate}
use Rattle.g_migrate.specs.Candidates.{blocks_in}

-- the blocks of a candidate that is below a stamp
abbrev pub below : ℕ → Candidate → ℕ
below t c = if nat_lt c.stamp t then c.blocks else 0

-- in order of stamp, no two with one
pub record AreRising (cs : List Candidate) : Type 0 where
  pub each : (i j : ℕ) (d : Candidate) → i < j → j < length cs → (get_or cs i d).stamp < (get_or cs j d).stamp

rest_rises : (c : Candidate) (cs : List Candidate) → AreRising (c ∷ cs) → AreRising cs
rest_rises c cs rising = record { each = λ i j d before inside. rising.each (suc i) (suc j) d (omega (arith, before)) (omega (arith, inside)) }

none_below : (t : ℕ) (cs : List Candidate) → All (λ (c : Candidate). t ≤ c.stamp) cs → sum_by (below t) cs ≡ 0
none_below t [] all = refl
none_below t (c ∷ cs) all =
    let here : below t c ≡ 0 = cond-false (nat_lt c.stamp t) c.blocks 0 (le-ltb c.stamp t (All-head (λ (e : Candidate). t ≤ e.stamp) c cs all)) in
    let rest = none_below t cs (All-tail (λ (e : Candidate). t ≤ e.stamp) c cs all) in
    omega (arith, sum_by-cons (below t) c cs, here, rest)

-- THE FIRST ONES are those below the stamp
pub record IsFront (t : ℕ) (cs : List Candidate) (count : ℕ) : Type 0 where
  pub within : count ≤ length cs
  pub lower : (i : ℕ) (d : Candidate) → i < count → (get_or cs i d).stamp < t
  pub higher : (i : ℕ) (d : Candidate) → count ≤ i → i < length cs → t ≤ (get_or cs i d).stamp
  pub blocks : sum_by (below t) cs ≡ blocks_in (take count cs)

front_more : (t : ℕ) (c : Candidate) (cs : List Candidate) (n : ℕ) → c.stamp < t → IsFront t cs n → IsFront t (c ∷ cs) (suc n)
front_more t c cs n less is = record {
  within = (let w = is.within in omega (arith, w));
  lower = lower;
  higher = higher;
  blocks =
      sum_by-cons (below t) c cs ∙ ap (λ (m : ℕ). m + sum_by (below t) cs) (cond-true (nat_lt c.stamp t) c.blocks 0 (lt-ltb c.stamp t less))
      ∙ ap (λ (m : ℕ). c.blocks + m) is.blocks ∙ sym (sum_by-cons (λ (e : Candidate). e.blocks) c (take n cs));
}
  where
    lower : (i : ℕ) (d : Candidate) → i < suc n → (get_or (c ∷ cs) i d).stamp < t
    lower zero d inside = less
    lower (suc i) d inside = is.lower i d (omega (arith, inside))

    higher : (i : ℕ) (d : Candidate) → suc n ≤ i → i < length (c ∷ cs) → t ≤ (get_or (c ∷ cs) i d).stamp
    higher zero d from inside = let no : ⊥ = omega (arith, from) in absurd no
    higher (suc i) d from inside = is.higher i d (omega (arith, from)) (omega (arith, inside))

front_none : (t : ℕ) (cs : List Candidate) → All (λ (c : Candidate). t ≤ c.stamp) cs → IsFront t cs 0
front_none t cs all = record {
  within = omega arith;
  lower = λ i d inside. let no : ⊥ = omega (arith, inside) in absurd no;
  higher = λ i d from inside. all i d inside;
  blocks = none_below t cs all;
}

all_above : (t : ℕ) (c : Candidate) (cs : List Candidate) → t ≤ c.stamp → AreRising (c ∷ cs) → All (λ (e : Candidate). t ≤ e.stamp) (c ∷ cs)
all_above t c cs high rising zero d inside = high
all_above t c cs high rising (suc k) d inside = let more = rising.each 0 (suc k) d (omega arith) inside in omega (arith, high, more)

pub front : (t : ℕ) (cs : List Candidate) → AreRising cs → (n : ℕ) × IsFront t cs n
front t [] rising = (0, front_none t [] (λ k d inside. let no : ⊥ = omega (arith, inside) in absurd no))
front t (c ∷ cs) rising = by_case (cases_lt c.stamp t) (front t cs (rest_rises c cs rising))
  where
    by_case : (c.stamp < t) ⊎ (t ≤ c.stamp) → ((n : ℕ) × IsFront t cs n) → ((n : ℕ) × IsFront t (c ∷ cs) n)
    by_case (inl less) (n, is) = (suc n, front_more t c cs n less is)
    by_case (inr high) rest = (0, front_none t (c ∷ cs) (all_above t c cs high rising))

-- that many are below the threshold, if the preceding ones are below it and the following ones aren't
pub front_is : (t : ℕ) (cs : List Candidate) (n k : ℕ) (d : Candidate) → IsFront t cs n → k ≤ length cs → ((i : ℕ) → i < k → (get_or cs i d).stamp < t)
    → ((i : ℕ) → k ≤ i → i < length cs → t ≤ (get_or cs i d).stamp) → n ≡ k
front_is t cs n k d is within lower higher = by_order (cases_order n k)
  where
    by_order : (n ≡ k) ⊎ ((n < k) ⊎ (k < n)) → n ≡ k
    by_order (inl same) = same
    by_order (inr (inl less)) =
        let one = lower n less in let other = is.higher n d (omega arith) (omega (arith, less, within)) in
        (let no : ⊥ = omega (arith, one, other) in absurd no)
    by_order (inr (inr more)) =
        let w = is.within in let one = is.lower k d more in let other = higher k (omega arith) (omega (arith, more, w)) in
        (let no : ⊥ = omega (arith, one, other) in absurd no)

-- the threshold after the first k: one more than the stamp of the last one
abbrev pub nobody : Candidate
nobody = record { stamp = 0; number = 0; blocks = 0 }

abbrev pub until_of : List Candidate → ℕ → ℕ
until_of cs zero = 0
until_of cs (suc k) = (get_or cs k nobody).stamp + 1

until_lower : (cs : List Candidate) (k : ℕ) → AreRising cs → k ≤ length cs → (i : ℕ) → i < k → (get_or cs i nobody).stamp < until_of cs k
until_lower cs zero rising within i inside = let no : ⊥ = omega (arith, inside) in absurd no
until_lower cs (suc k) rising within i inside = by_order (cases_order i k)
  where
    by_order : (i ≡ k) ⊎ ((i < k) ⊎ (k < i)) → (get_or cs i nobody).stamp < (get_or cs k nobody).stamp + 1
    by_order (inl same) = let e = ap (λ (n : ℕ). (get_or cs n nobody).stamp) same in omega (arith, e)
    by_order (inr (inl less)) = let more = rising.each i k nobody less (omega (arith, within)) in omega (arith, more)
    by_order (inr (inr more)) = let no : ⊥ = omega (arith, more, inside) in absurd no

until_higher : (cs : List Candidate) (k : ℕ) → AreRising cs → (i : ℕ) → k ≤ i → i < length cs → until_of cs k ≤ (get_or cs i nobody).stamp
until_higher cs zero rising i from inside = omega arith
until_higher cs (suc k) rising i from inside = let more = rising.each k i nobody (omega (arith, from)) inside in omega (arith, more)

-- the first k are those below it
pub until_front : (cs : List Candidate) (k : ℕ) → AreRising cs → k ≤ length cs → IsFront (until_of cs k) cs k
until_front cs k rising within =
    let t = until_of cs k in
    let (n, is) = front t cs rising in
    let same : n ≡ k = front_is t cs n k nobody is within (until_lower cs k rising within) (until_higher cs k rising) in
    subst (IsFront t cs) same is

-- and below a lower stamp there are fewer
pub fewer_below : (cs : List Candidate) (k : ℕ) → AreRising cs → k ≤ length cs → (lower : ℕ) → lower < until_of cs k → (n : ℕ) × (n < k) × IsFront lower cs n
fewer_below cs zero rising within lower less = let no : ⊥ = omega (arith, less) in absurd no
fewer_below cs (suc k) rising within lower less = by_case (front lower cs rising)
  where
    by_case : ((n : ℕ) × IsFront lower cs n) → ((n : ℕ) × (n < suc k) × IsFront lower cs n)
    by_case (n, is) = (n, by_count (cases_lt n (suc k)), is)
      where
        by_count : (n < suc k) ⊎ (suc k ≤ n) → n < suc k
        by_count (inl few) = few
        by_count (inr many) = let one = is.lower k nobody (omega (arith, many)) in (let no : ⊥ = omega (arith, one, less) in absurd no)
