-- What the jobs of a run have left, as sums: after a job continues as another, is removed, or is added.
-- serves: PieceLemmas, crates above
use Rattle.std.proofs.Common.{◌≡◌, ◌<◌, ◌≤◌, ◌+◌, ◌-◌, ◌==◌, ℕ, Bool, true, false, cond, not, List, [], ◌∷◌, sum_by, Some, None, refl, ◌∙◌, ap, if◌then◌else◌, eqb-true, ne_eqb, arith}
use Rattle.std.proofs.lemmas.List.Sums.{sum_by-cons}
use Rattle.g_base.proofs.KeyLemmas.{filter-absent, put-none}
use Rattle.g_job.specs.State.{JobState}
use Rattle.g_run_model.specs.World.{with_job, without_job}
use Rattle.g_run_model.proofs.CrewLemmas.{AreRising, no_job, numbered, one_job}

-- a job's share: the units that are left of its allowance, plus one if it can step
abbrev pub share : (JobState → Bool) → JobState → ℕ
share can j = (j.allowance - j.used) + (if can j then 1 else 0)

-- no job is below the first number
pub below_none : (number low : ℕ) (jobs : List JobState) (top : ℕ) → number < low → AreRising low jobs top → numbered number jobs ≡ None
below_none number low [] top less r = refl
below_none number low (j ∷ jobs) top less r =
    let least : low ≤ j.number = r.0 in
    let other : (j.number == number) ≡ false = ne_eqb j.number number (λ same. let no : ⊥ = omega (arith, less, least, same) in no) in
    ap (λ (b : Bool). cond b (Some j) (numbered number jobs)) other ∙ below_none number (j.number + 1) jobs top (omega (arith, less, least)) r.1

-- if no job has the number, replacing and removing it leaves the list unchanged
with_none : (j : JobState) (jobs : List JobState) → numbered j.number jobs ≡ None → with_job j jobs ≡ jobs
with_none j jobs none = put-none (λ (k : JobState). k.number) j jobs none

without_none : (number : ℕ) (jobs : List JobState) → numbered number jobs ≡ None → without_job number jobs ≡ jobs
without_none number jobs none = filter-absent (λ (k : JobState). k.number == number) jobs none

module _ (f : JobState → ℕ) where
  -- a job continues as another
  pub sum_by-with : (new old : JobState) (low : ℕ) (jobs : List JobState) (top : ℕ) → AreRising low jobs top → numbered new.number jobs ≡ Some old → sum_by f (with_job new jobs) + f old ≡ sum_by f jobs + f new
  sum_by-with new old low [] top r found = no_job old found
  sum_by-with new old low (k ∷ jobs) top r found = by (k.number == new.number) refl found (λ e. sum_by-with new old (k.number + 1) jobs top r.1 e)
    where
      by : (b : Bool) → (k.number == new.number) ≡ b → cond b (Some k) (numbered new.number jobs) ≡ Some old → (numbered new.number jobs ≡ Some old → sum_by f (with_job new jobs) + f old ≡ sum_by f jobs + f new)
          → sum_by f ((if b then new else k) ∷ with_job new jobs) + f old ≡ sum_by f (k ∷ jobs) + f new
      by true e found again =
          let same : k.number ≡ new.number = eqb-true k.number new.number e in
          let rest : with_job new jobs ≡ jobs = with_none new jobs (below_none new.number (k.number + 1) jobs top (omega (arith, same)) r.1) in
          let is : f k ≡ f old = ap f (one_job k old found) in
          let left : sum_by f (new ∷ with_job new jobs) ≡ f new + sum_by f jobs = sum_by-cons f new (with_job new jobs) ∙ ap (λ (js : List JobState). f new + sum_by f js) rest in
          let right : sum_by f (k ∷ jobs) ≡ f k + sum_by f jobs = sum_by-cons f k jobs in
          omega (arith, is, left, right)
      by false e found again =
          let rest : sum_by f (with_job new jobs) + f old ≡ sum_by f jobs + f new = again found in
          let left : sum_by f (k ∷ with_job new jobs) ≡ f k + sum_by f (with_job new jobs) = sum_by-cons f k (with_job new jobs) in
          let right : sum_by f (k ∷ jobs) ≡ f k + sum_by f jobs = sum_by-cons f k jobs in
          omega (arith, rest, left, right)

  -- a job is gone
  pub sum_by-without : (number : ℕ) (old : JobState) (low : ℕ) (jobs : List JobState) (top : ℕ) → AreRising low jobs top → numbered number jobs ≡ Some old → sum_by f (without_job number jobs) + f old ≡ sum_by f jobs
  sum_by-without number old low [] top r found = no_job old found
  sum_by-without number old low (k ∷ jobs) top r found = by (k.number == number) refl found (λ e. sum_by-without number old (k.number + 1) jobs top r.1 e)
    where
      by : (b : Bool) → (k.number == number) ≡ b → cond b (Some k) (numbered number jobs) ≡ Some old → (numbered number jobs ≡ Some old → sum_by f (without_job number jobs) + f old ≡ sum_by f jobs)
          → sum_by f (cond (not b) (k ∷ without_job number jobs) (without_job number jobs)) + f old ≡ sum_by f (k ∷ jobs)
      by true e found again =
          let same : k.number ≡ number = eqb-true k.number number e in
          let rest : sum_by f (without_job number jobs) ≡ sum_by f jobs = ap (λ (js : List JobState). sum_by f js) (without_none number jobs (below_none number (k.number + 1) jobs top (omega (arith, same)) r.1)) in
          let is : f k ≡ f old = ap f (one_job k old found) in
          let right : sum_by f (k ∷ jobs) ≡ f k + sum_by f jobs = sum_by-cons f k jobs in
          omega (arith, is, rest, right)
      by false e found again =
          let rest : sum_by f (without_job number jobs) + f old ≡ sum_by f jobs = again found in
          let left : sum_by f (k ∷ without_job number jobs) ≡ f k + sum_by f (without_job number jobs) = sum_by-cons f k (without_job number jobs) in
          let right : sum_by f (k ∷ jobs) ≡ f k + sum_by f jobs = sum_by-cons f k jobs in
          omega (arith, rest, left, right)

-- A SHARE FALLS: where units were charged, and where a job that could step can't any more
pub share-charged : (can : JobState → Bool) (old new : JobState) → can old ≡ true → new.allowance ≡ old.allowance → old.used + 1 ≤ new.used → new.used ≤ new.allowance → share can new + 1 ≤ share can old
share-charged can old new could allowed more covered = by (can new) (can old) could
  where
    by : (b c : Bool) → c ≡ true → (new.allowance - new.used) + (if b then 1 else 0) + 1 ≤ (old.allowance - old.used) + (if c then 1 else 0)
    by true true e = omega (arith, allowed, more, covered)
    by false true e = omega (arith, allowed, more, covered)
    by b false e = absurd (let no : ⊥ = cc in no)

pub share-waits : (can : JobState → Bool) (old new : JobState) → can old ≡ true → can new ≡ false → new.allowance ≡ old.allowance → new.used ≡ old.used → share can new + 1 ≤ share can old
share-waits can old new could cannot allowed same = by (can new) (can old) could cannot
  where
    by : (b c : Bool) → c ≡ true → b ≡ false → (new.allowance - new.used) + (if b then 1 else 0) + 1 ≤ (old.allowance - old.used) + (if c then 1 else 0)
    by false true e w = omega (arith, allowed, same)
    by true c e w = absurd (let no : ⊥ = cc in no)
    by false false e w = absurd (let no : ⊥ = cc in no)

pub share-steps : (can : JobState → Bool) (j : JobState) → can j ≡ true → 1 ≤ share can j
share-steps can j could = by (can j) could
  where
    by : (b : Bool) → b ≡ true → 1 ≤ (j.allowance - j.used) + (if b then 1 else 0)
    by true e = omega arith
    by false e = absurd (let no : ⊥ = cc in no)
