-- One of some jobs is chosen.
-- serves: CallLemmas, GoesLemmas, ReadyLemmas
use Rattle.std.proofs.Common.{◌≡◌, ℕ, zero, suc, ◌<◌, ◌==◌, List, [], ◌∷◌, Bool, true, false, Option, Some, None, map, slice_get, refl, sym, ◌∙◌, ap, subst, inl, inr, arith, eq-eqb}
use Rattle.std.specs.Prelude.{◌⊎◌, filter, cond}
use Rattle.std.specs.Fn.{FnReturnsAt, Shared}
use denote.Ref.{Bor}
use Rattle.g_job.specs.Beginning.{standing_of}
use Rattle.g_job.specs.State.{JobState}
use Rattle.g_rules.specs.Choice.{IsChosen, IsNoLater}
use Rattle.g_rules.specs.declared.rule.Standing.{Standing}
use Rattle.g_run_model.proofs.CrewLemmas.{numbered}

no_standing : {P : Type 0} (x : Standing) → (let none : Option Standing = None in none ≡ Some x) → P
no_standing x e = absurd (let no : ⊥ = cc in no)

one_standing : (x y : Standing) → (let one : Option Standing = Some x in one ≡ Some y) → x ≡ y
one_standing x y e = cc

-- numbers in order
pub order : (a b : ℕ) → (a < b) ⊎ ((a ≡ b) ⊎ (b < a))
order zero zero = inr (inl refl)
order zero (suc b) = inl (omega arith)
order (suc a) zero = inr (inr (omega arith))
order (suc a) (suc b) = by (order a b)
  where
    by : (a < b) ⊎ ((a ≡ b) ⊎ (b < a)) → (suc a < suc b) ⊎ ((suc a ≡ suc b) ⊎ (suc b < suc a))
    by (inl less) = inl (omega (arith, less))
    by (inr (inl same)) = inr (inl (ap suc same))
    by (inr (inr more)) = inr (inr (omega (arith, more)))

-- of two, one may precede the other
either : (w n w' n' : ℕ) → IsNoLater w n w' n' ⊎ IsNoLater w' n' w n
either w n w' n' = by (order w w') (order n n')
  where
    by : (w < w') ⊎ ((w ≡ w') ⊎ (w' < w)) → (n < n') ⊎ ((n ≡ n') ⊎ (n' < n)) → IsNoLater w n w' n' ⊎ IsNoLater w' n' w n
    by (inl less) numbers = inl (inl less)
    by (inr (inr more)) numbers = inr (inl more)
    by (inr (inl same)) (inl less) = inl (inr (same, omega (arith, less)))
    by (inr (inl same)) (inr (inl equal)) = inl (inr (same, omega (arith, equal)))
    by (inr (inl same)) (inr (inr more)) = inr (inr (sym same, omega (arith, more)))

no_later : (a n b m c k : ℕ) → IsNoLater a n b m → IsNoLater b m c k → IsNoLater a n c k
no_later a n b m c k (inl less) (inl lower) = inl (omega (arith, less, lower))
no_later a n b m c k (inl less) (inr (same, le)) = inl (omega (arith, less, same))
no_later a n b m c k (inr (same, le)) (inl lower) = inl (omega (arith, lower, same))
no_later a n b m c k (inr (same, le)) (inr (equal, more)) = inr (same ∙ equal, omega (arith, le, more))

module _ {U : Type 0} (rules : Shared U (Bor Standing × Unit {0}) ℕ) (rule : U) (weights : (standing : Standing) → (weight : ℕ) × FnReturnsAt rules rule standing weight) where
  abbrev Answers : Standing → ℕ → Type 0
  Answers standing weight = FnReturnsAt rules rule standing weight

  -- the first precedes all others
  first : (x : Standing) (xs : List Standing) (weight : ℕ) → Answers x weight
      → ((place : ℕ) (y : Standing) → slice_get xs place ≡ Some y → (weight' : ℕ) × Answers y weight' × IsNoLater weight x.number weight' y.number) → IsChosen rules rule (x ∷ xs) 0
  first x xs weight answer rest = record { standing = x; weight = weight; there = refl; weighed = answer; least = least }
    where
      least : (place : ℕ) (y : Standing) → slice_get (x ∷ xs) place ≡ Some y → (weight' : ℕ) × Answers y weight' × IsNoLater weight x.number weight' y.number
      least zero y there =
          let same : x ≡ y = one_standing x y there in
          subst (λ (z : Standing). (weight' : ℕ) × Answers z weight' × IsNoLater weight x.number weight' z.number) same (weight, answer, inr (refl, omega arith))
      least (suc place) y there = rest place y there

  -- or a later one
  later : (x : Standing) (xs : List Standing) (place weight : ℕ) → Answers x weight → (chosen : IsChosen rules rule xs place) → IsNoLater chosen.weight chosen.standing.number weight x.number → IsChosen rules rule (x ∷ xs) (suc place)
  later x xs place weight answer chosen before = record { standing = chosen.standing; weight = chosen.weight; there = chosen.there; weighed = chosen.weighed; least = least }
    where
      least : (at : ℕ) (y : Standing) → slice_get (x ∷ xs) at ≡ Some y → (weight' : ℕ) × Answers y weight' × IsNoLater chosen.weight chosen.standing.number weight' y.number
      least zero y there =
          let same : x ≡ y = one_standing x y there in
          subst (λ (z : Standing). (weight' : ℕ) × Answers z weight' × IsNoLater chosen.weight chosen.standing.number weight' z.number) same (weight, answer, before)
      least (suc at) y there = chosen.least at y there

  behind : (x : Standing) (xs : List Standing) (place weight : ℕ) → Answers x weight → (chosen : IsChosen rules rule xs place) → IsNoLater weight x.number chosen.weight chosen.standing.number
      → (at : ℕ) (y : Standing) → slice_get xs at ≡ Some y → (weight' : ℕ) × Answers y weight' × IsNoLater weight x.number weight' y.number
  behind x xs place weight answer chosen before at y there =
      let other = chosen.least at y there in
      (other.0, other.1, no_later weight x.number chosen.weight chosen.standing.number other.0 y.number before other.2)

  by_order : (x : Standing) (xs : List Standing) (place weight : ℕ) → Answers x weight → (chosen : IsChosen rules rule xs place)
      → IsNoLater weight x.number chosen.weight chosen.standing.number ⊎ IsNoLater chosen.weight chosen.standing.number weight x.number → (at : ℕ) × IsChosen rules rule (x ∷ xs) at
  by_order x xs place weight answer chosen (inl before) = (0, first x xs weight answer (behind x xs place weight answer chosen before))
  by_order x xs place weight answer chosen (inr after) = (suc place, later x xs place weight answer chosen after)

  some_chosen : (x : Standing) (xs : List Standing) → (place : ℕ) × IsChosen rules rule (x ∷ xs) place
  some_chosen x [] = let one = weights x in (0, first x [] one.0 one.1 (λ at y there. no_standing y there))
  some_chosen x (y ∷ ys) =
      let one = weights x in
      let rest = some_chosen y ys in
      by_order x (y ∷ ys) rest.0 one.0 one.1 rest.1 (either one.0 x.number rest.1.weight rest.1.standing.number)

  -- of jobs that there are, one is chosen
  at_place : (jobs : List JobState) (place : ℕ) (standing : Standing) → slice_get (map standing_of jobs) place ≡ Some standing → (job : JobState) × (slice_get jobs place ≡ Some job)
  at_place [] place standing there = no_standing standing there
  at_place (j ∷ jobs) zero standing there = (j, refl)
  at_place (j ∷ jobs) (suc place) standing there = at_place jobs place standing there

  pub job_chosen : (j : JobState) (jobs : List JobState) → (place : ℕ) × (job : JobState) × IsChosen rules rule (map standing_of (j ∷ jobs)) place × (slice_get (j ∷ jobs) place ≡ Some job)
  job_chosen j jobs =
      let chosen = some_chosen (standing_of j) (map standing_of jobs) in
      let there = at_place (j ∷ jobs) chosen.0 chosen.1.standing chosen.1.there in
      (chosen.0, there.0, chosen.1, there.1)

-- a job of a list has a number, and the list has a job of this number
pub no_job : {P : Type 0} (x : JobState) → (let none : Option JobState = None in none ≡ Some x) → P
no_job x e = absurd (let no : ⊥ = cc in no)

itself : (n : ℕ) → (n == n) ≡ true
itself n = eq-eqb n n refl

pub number_there : (p : JobState → Bool) (jobs : List JobState) (place : ℕ) (job : JobState) → slice_get (filter p jobs) place ≡ Some job → (x : JobState) × (numbered job.number jobs ≡ Some x)
number_there p [] place job there = no_job job there
number_there p (j ∷ jobs) place job there = by (p j) place there (λ at e. number_there p jobs at job e)
  where
    later : (b : Bool) → (x : JobState) × (numbered job.number jobs ≡ Some x) → (x : JobState) × (cond b (Some j) (numbered job.number jobs) ≡ Some x)
    later true found = (j, refl)
    later false found = found

    here : j ≡ job → (x : JobState) × (numbered job.number (j ∷ jobs) ≡ Some x)
    here same = (j, ap (λ (n : ℕ). cond (j.number == n) (Some j) (numbered n jobs)) (ap (λ (x : JobState). x.number) (sym same)) ∙ ap (λ (b : Bool). cond b (Some j) (numbered j.number jobs)) (itself j.number))

    one : (x y : JobState) → (let one : Option JobState = Some x in one ≡ Some y) → x ≡ y
    one x y e = cc

    by : (b : Bool) (place : ℕ) → slice_get (cond b (j ∷ filter p jobs) (filter p jobs)) place ≡ Some job → ((at : ℕ) → slice_get (filter p jobs) at ≡ Some job → (x : JobState) × (numbered job.number jobs ≡ Some x))
        → (x : JobState) × (numbered job.number (j ∷ jobs) ≡ Some x)
    by true zero there again = here (one j job there)
    by true (suc place) there again = later (j.number == job.number) (again place there)
    by false place there again = later (j.number == job.number) (again place there)
