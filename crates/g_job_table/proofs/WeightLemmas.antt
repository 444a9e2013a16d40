-- The weights of jobs, place by place.
-- serves: first_of, weigh_again, weigh_each
use Rattle.std.proofs.Common.{◌≡◌, ◌==◌, ◌⊎◌, ⊎_elim, ◌+◌, ◌<◌, ◌≤◌, ◌∙◌, ◌++◌, ◌∷◌, [], Bool, List, None, Option, Some, ap, arith, length, get_or, refl, set, slice_get, subst, suc, sym, true, false, eqb, eqb-true, inl, inr, zero, ℕ}
use Rattle.std.specs.Fn.{FnReturnsAt, Shared}
use denote.Ref.{Bor}
use Rattle.std.proofs.lemmas.Bool.{cases_lt, eqb-false}
use Rattle.std.proofs.lemmas.List.{length_push}
use Rattle.std.proofs.lemmas.Option.{none-some, same_Some, slice_get_read, slice_get_within}
use Rattle.g_rules.specs.declared.rule.Standing.{Standing}
use Rattle.g_job.specs.Beginning.{standing_of}
use Rattle.g_job.specs.State.{JobState}
use Rattle.g_job_table.specs.Numbers.{Rise, job_in}
use Rattle.g_job_table.specs.Weights.{AreOthers, AreWeights}
use Rattle.g_job_table.proofs.AccountLemmas.{cond_none}
use Rattle.g_job_table.proofs.NumberLemmas.{only_at}

push_before : {X : Type 0} (xs : List X) (x : X) (k : ℕ) → k < length xs → slice_get (xs ++ x ∷ []) k ≡ slice_get xs k
push_before [] x k below = absurd (omega (arith, below))
push_before (y ∷ xs) x zero below = refl
push_before (y ∷ xs) x (suc k) below = push_before xs x k (omega (arith, below))

push_last : {X : Type 0} (xs : List X) (x : X) → slice_get (xs ++ x ∷ []) (length xs) ≡ Some x
push_last [] x = refl
push_last (y ∷ xs) x = push_last xs x

set_same : {X : Type 0} (xs : List X) (i : ℕ) (x : X) → i < length xs → slice_get (set xs i x) i ≡ Some x
set_same [] i x below = absurd (omega (arith, below))
set_same (y ∷ xs) zero x below = refl
set_same (y ∷ xs) (suc i) x below = set_same xs i x (omega (arith, below))

set_other : {X : Type 0} (xs : List X) (i k : ℕ) (x : X) → (k ≡ i → ⊥) → slice_get (set xs i x) k ≡ slice_get xs k
set_other [] i k x apart = refl
set_other (y ∷ xs) zero zero x apart = absurd (apart refl)
set_other (y ∷ xs) zero (suc k) x apart = refl
set_other (y ∷ xs) (suc i) zero x apart = refl
set_other (y ∷ xs) (suc i) (suc k) x apart = set_other xs i k x (λ e. apart (ap (λ (n : ℕ). suc n) e))

set_long : {X : Type 0} (xs : List X) (i : ℕ) (x : X) → length (set xs i x) ≡ length xs
set_long [] i x = refl
set_long (y ∷ xs) zero x = refl
set_long (y ∷ xs) (suc i) x = ap (λ (n : ℕ). suc n) (set_long xs i x)

-- a number occurs at only one place
one_place : (low : ℕ) (jobs : List JobState) (next p q : ℕ) (j k : JobState) → Rise low jobs next → slice_get jobs p ≡ Some j → slice_get jobs q ≡ Some k → j.number ≡ k.number → p ≡ q
one_place low [] next p q j k rise at there same = absurd (none-some j at)
one_place low (m ∷ jobs) next zero zero j k rise at there same = refl
one_place low (m ∷ jobs) next zero (suc q) j k rise at there same =
    let here : m.number ≡ j.number = ap (λ (x : JobState). x.number) (same_Some m j at) in
    let later : m.number + 1 ≤ k.number = (only_at (m.number + 1) jobs next q k rise.1 there).0 in
    absurd (omega (arith, here, later, same))
one_place low (m ∷ jobs) next (suc p) zero j k rise at there same =
    let here : m.number ≡ k.number = ap (λ (x : JobState). x.number) (same_Some m k there) in
    let later : m.number + 1 ≤ j.number = (only_at (m.number + 1) jobs next p j rise.1 at).0 in
    absurd (omega (arith, here, later, same))
one_place low (m ∷ jobs) next (suc p) (suc q) j k rise at there same = ap (λ (n : ℕ). suc n) (one_place (m.number + 1) jobs next p q j k rise.1 at there same)

same_or : (m n : ℕ) → (m ≡ n) ⊎ (m ≡ n → ⊥)
same_or m n = by (eqb m n) refl
  where
    by : (b : Bool) → eqb m n ≡ b → (m ≡ n) ⊎ (m ≡ n → ⊥)
    by true is = inl (eqb-true m n is)
    by false is = inr (eqb-false m n is)

-- if a number wasn't found, no job has it
nobody : (jobs : List JobState) (p : ℕ) (j : JobState) (number : ℕ) → job_in number jobs ≡ None → slice_get jobs p ≡ Some j → j.number ≡ number → ⊥
nobody [] p j number none at e = none-some j at
nobody (m ∷ jobs) zero j number none at e =
    let (unlike, before) = cond_none (m.number == number) m (job_in number jobs) none in
    eqb-false m.number number unlike (ap (λ (x : JobState). x.number) (same_Some m j at) ∙ e)
nobody (m ∷ jobs) (suc p) j number none at e = let (unlike, before) = cond_none (m.number == number) m (job_in number jobs) none in nobody jobs p j number before at e

module _ {U : Type 0} (rules : Shared U (Bor Standing × Unit {0}) ℕ) (rule : U) where
  abbrev pub IsWeight : JobState → List ℕ → ℕ → Type 0
  IsWeight job weights place = (weight : ℕ) × (slice_get weights place ≡ Some weight) × FnReturnsAt rules rule (standing_of job) weight

  -- the weights of the first jobs
  abbrev pub AreFront : List JobState → ℕ → List ℕ → Type 0
  AreFront jobs i weights = (length weights ≡ i) × ((place : ℕ) (job : JobState) → place < i → slice_get jobs place ≡ Some job → IsWeight job weights place)

  pub front-none : (jobs : List JobState) → AreFront jobs 0 []
  front-none jobs = (refl, λ place job below there. absurd (omega (arith, below)))

  pub front-more : (jobs : List JobState) (i : ℕ) (j : JobState) (weights : List ℕ) (weight : ℕ) → i < length jobs → j ≡ get_or jobs i j → FnReturnsAt rules rule (standing_of j) weight
      → AreFront jobs i weights → AreFront jobs (i + 1) (weights ++ weight ∷ [])
  front-more jobs i j weights weight within is weighs (long, each) = (
    length_push weights weight ∙ ap (λ (n : ℕ). n + 1) long,
    λ place job below there. ⊎_elim
        (λ (less : place < i).
        let (w, at, returns) = each place job less there in
        (w, push_before weights weight place (omega (arith, less, long)) ∙ at, returns))
        (λ (past : i ≤ place).
        let same : place ≡ i = omega (arith, past, below) in
        let one : job ≡ j = same_Some job j (sym there ∙ ap (λ (n : ℕ). slice_get jobs n) same ∙ slice_get_read jobs _ i j refl within is) in (
          weight,
          ap (λ (n : ℕ). slice_get (weights ++ weight ∷ []) n) (same ∙ sym long) ∙ push_last weights weight,
          subst (λ (x : JobState). FnReturnsAt rules rule (standing_of x) weight) (sym one) weighs,
        ))
        (cases_lt place i),
  )

  pub front-whole : (jobs : List JobState) (i : ℕ) (weights : List ℕ) → i ≡ length jobs → AreFront jobs i weights → AreWeights rules rule jobs weights
  front-whole jobs i weights whole (long, each) = (
    long ∙ whole,
    λ place job there. each place job (let within = slice_get_within jobs place job there in omega (arith, within, whole)) there,
  )

  -- the one at a place
  pub weight-at : (jobs : List JobState) (weights : List ℕ) (place : ℕ) (job : JobState) (weight : ℕ) → AreWeights rules rule jobs weights → slice_get jobs place ≡ Some job
      → slice_get weights place ≡ Some weight → FnReturnsAt rules rule (standing_of job) weight
  weight-at jobs weights place job weight (long, each) there at =
      let (w, is, returns) = each place job there in subst (λ (n : ℕ). FnReturnsAt rules rule (standing_of job) n) (same_Some w weight (sym is ∙ at)) returns

  -- one job is weighed again
  pub weights-again : (jobs : List JobState) (next : ℕ) (weights : List ℕ) (number place weight : ℕ) (job : JobState) → Rise 1 jobs next → length jobs ≡ length weights
      → slice_get jobs place ≡ Some job → job.number ≡ number → FnReturnsAt rules rule (standing_of job) weight → AreOthers rules rule number jobs weights
      → AreWeights rules rule jobs (set weights place weight)
  weights-again jobs next weights number place weight job rise long there named weighs others = (
    set_long weights place weight ∙ sym long,
    λ p j at. ⊎_elim
        (λ (same : p ≡ place).
        let one : j ≡ job = same_Some j job (sym at ∙ ap (λ (n : ℕ). slice_get jobs n) same ∙ there) in
        let within : place < length jobs = slice_get_within jobs place job there in (
          weight,
          ap (λ (n : ℕ). slice_get (set weights place weight) n) same ∙ set_same weights place weight (omega (arith, within, long)),
          subst (λ (x : JobState). FnReturnsAt rules rule (standing_of x) weight) (sym one) weighs,
        ))
        (λ (apart : p ≡ place → ⊥).
        let (w, is, returns) = others p j at (λ e. apart (one_place 1 jobs next p place j job rise at there (e ∙ sym named))) in
        (w, set_other weights place p weight apart ∙ is, returns))
        (same_or p place),
  )

  -- no job has the number
  pub weights-same : (jobs : List JobState) (weights : List ℕ) (number : ℕ) → length jobs ≡ length weights → job_in number jobs ≡ None → AreOthers rules rule number jobs weights
      → AreWeights rules rule jobs weights
  weights-same jobs weights number long none others = (sym long, λ p j at. others p j at (λ e. nobody jobs p j number none at e))
