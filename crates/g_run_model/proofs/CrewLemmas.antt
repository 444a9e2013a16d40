-- Lists of jobs: each has a number of its own, new ones are added after the others, and the others remain when one is
-- removed.
-- serves: EndsLemmas, OneTextLemmas, PieceLemmas, PricedLemmas, PutLemmas, ReadLemmas, ShareLemmas, TakenLemmas, crates above
use Rattle.std.proofs.Common.{◌≡◌, ◌<◌, ◌≤◌, ◌+◌, ◌==◌, ◌⊎◌, ℕ, zero, suc, Bool, true, false, cond, List, [], ◌∷◌, ◌++◌, filter, find, option_map, Option, Some, None, slice_get, refl, sym, ◌∙◌, ap, subst, inl, inr, if◌then◌else◌, le_trans, eq-eqb, ne_eqb, eqb-true, arith}
use Rattle.g_base.proofs.KeyLemmas.{find-put, find-put_other, find-without, without-none}
use Rattle.g_job.specs.State.{JobState}
use Rattle.g_run_model.specs.World.{with_job, without_job}

-- the job of a number
abbrev pub numbered : ℕ → List JobState → Option JobState
numbered number jobs = find (λ j. j.number == number) jobs

-- numbers rise, from this one on, and are below that one
abbrev pub AreRising : ℕ → List JobState → ℕ → Type 0
AreRising low [] top = low ≤ top
AreRising low (j ∷ jobs) top = (low ≤ j.number) × AreRising (j.number + 1) jobs top

pub one_job : (a b : JobState) → (let one : Option JobState = Some a in one ≡ Some b) → a ≡ b
one_job a b e = cc

pub no_job : {P : Type 0} (b : JobState) → (let none : Option JobState = None in none ≡ Some b) → P
no_job b e = absurd (let no : ⊥ = cc in no)

nobody_there : {P : Type 0} (place : ℕ) (job : JobState) → (let none : List JobState = [] in slice_get none place ≡ Some job) → P
nobody_there zero job e = no_job job e
nobody_there (suc n) job e = no_job job e

pub itself : (n : ℕ) → (n == n) ≡ true
itself n = eq-eqb n n refl

pub rising_top : (low : ℕ) (jobs : List JobState) (top : ℕ) → AreRising low jobs top → low ≤ top
rising_top low [] top r = r
rising_top low (j ∷ jobs) top r =
    let more : j.number + 1 ≤ top = rising_top (j.number + 1) jobs top r.1 in
    let least : low ≤ j.number = r.0 in
    omega (arith, more, least)

pub rising_lower : (low less : ℕ) (jobs : List JobState) (top : ℕ) → less ≤ low → AreRising low jobs top → AreRising less jobs top
rising_lower low less [] top le r = le_trans le r
rising_lower low less (j ∷ jobs) top le r = (le_trans le r.0, r.1)

-- a job is added
pub rising_push : (low : ℕ) (jobs : List JobState) (top : ℕ) (job : JobState) → job.number ≡ top → AreRising low jobs top → AreRising low (jobs ++ job ∷ []) (top + 1)
rising_push low [] top job is r = (subst (λ (n : ℕ). low ≤ n) (sym is) r, omega (arith, is))
rising_push low (j ∷ jobs) top job is r = (r.0, rising_push (j.number + 1) jobs top job is r.1)

-- a job in the place of the one that has its number
pub rising_with : (j : JobState) (low : ℕ) (jobs : List JobState) (top : ℕ) → AreRising low jobs top → AreRising low (with_job j jobs) top
rising_with j low [] top r = r
rising_with j low (k ∷ jobs) top r = by (k.number == j.number) refl (rising_with j (k.number + 1) jobs top r.1)
  where
    by : (b : Bool) → (k.number == j.number) ≡ b → AreRising (k.number + 1) (with_job j jobs) top → AreRising low ((if b then j else k) ∷ with_job j jobs) top
    by true e rest =
        let same : k.number ≡ j.number = eqb-true k.number j.number e in
        (subst (λ (n : ℕ). low ≤ n) same r.0, subst (λ (n : ℕ). AreRising (n + 1) (with_job j jobs) top) same rest)
    by false e rest = (r.0, rest)

-- jobs that are removed
pub rising_filter : (p : JobState → Bool) (low : ℕ) (jobs : List JobState) (top : ℕ) → AreRising low jobs top → AreRising low (filter p jobs) top
rising_filter p low [] top r = r
rising_filter p low (j ∷ jobs) top r = by (p j) (rising_filter p (j.number + 1) jobs top r.1)
  where
    by : (b : Bool) → AreRising (j.number + 1) (filter p jobs) top → AreRising low (cond b (j ∷ filter p jobs) (filter p jobs)) top
    by true rest = (r.0, rest)
    by false rest = rising_lower (j.number + 1) low (filter p jobs) top (let least : low ≤ j.number = r.0 in omega (arith, least)) rest

-- a job is the one of its number if it is the first, or a later one
abbrev IsOne : (JobState → Bool) → ℕ → List JobState → JobState → Type 0
IsOne p low jobs job = (low ≤ job.number) × (numbered job.number jobs ≡ Some job) × (p job ≡ true)

module _ (p : JobState → Bool) (low : ℕ) (j : JobState) (jobs : List JobState) (top : ℕ) (job : JobState) (r : AreRising low (j ∷ jobs) top) where
  one_here : p j ≡ true → j ≡ job → IsOne p low (j ∷ jobs) job
  one_here e same = (
    subst (λ (x : JobState). low ≤ x.number) same r.0,
    subst (λ (x : JobState). numbered x.number (j ∷ jobs) ≡ Some x) same (ap (λ (b : Bool). cond b (Some j) (numbered j.number jobs)) (itself j.number)),
    ap p (sym same) ∙ e,
  )

  one_behind : IsOne p (j.number + 1) jobs job → IsOne p low (j ∷ jobs) job
  one_behind more =
      let least : low ≤ j.number = r.0 in
      let above : j.number + 1 ≤ job.number = more.0 in
      let other : (j.number == job.number) ≡ false = ne_eqb j.number job.number (λ same. let no : ⊥ = omega (arith, same, above) in no) in
      (omega (arith, least, above), ap (λ (b : Bool). cond b (Some j) (numbered job.number jobs)) other ∙ more.1, more.2)

-- a job at a place of those that pass a test is the one of its number
pub listed : (p : JobState → Bool) (low : ℕ) (jobs : List JobState) (top place : ℕ) (job : JobState) → AreRising low jobs top → slice_get (filter p jobs) place ≡ Some job
    → (low ≤ job.number) × (numbered job.number jobs ≡ Some job) × (p job ≡ true)
listed p low [] top place job r there = nobody_there place job there
listed p low (j ∷ jobs) top place job r there = by (p j) refl place there (λ n e. listed p (j.number + 1) jobs top n job r.1 e)
  where
    by : (b : Bool) → p j ≡ b → (place : ℕ) → slice_get (cond b (j ∷ filter p jobs) (filter p jobs)) place ≡ Some job
        → ((n : ℕ) → slice_get (filter p jobs) n ≡ Some job → IsOne p (j.number + 1) jobs job) → IsOne p low (j ∷ jobs) job
    by true e zero there again = one_here p low j jobs top job r e (one_job j job there)
    by true e (suc place) there again = one_behind p low j jobs top job r (again place there)
    by false e place there again = one_behind p low j jobs top job r (again place there)

-- the job of a number has it, and it is below the next one
pub number_of : (number low : ℕ) (jobs : List JobState) (top : ℕ) (job : JobState) → AreRising low jobs top → numbered number jobs ≡ Some job → (job.number ≡ number) × (number < top)
number_of number low [] top job r found = no_job job found
number_of number low (j ∷ jobs) top job r found = by (j.number == number) refl found (λ e. number_of number (j.number + 1) jobs top job r.1 e)
  where
    by : (b : Bool) → (j.number == number) ≡ b → cond b (Some j) (numbered number jobs) ≡ Some job → (numbered number jobs ≡ Some job → (job.number ≡ number) × (number < top)) → (job.number ≡ number) × (number < top)
    by true e found again =
        let same : j.number ≡ number = eqb-true j.number number e in
        let below : j.number + 1 ≤ top = rising_top (j.number + 1) jobs top r.1 in
        (ap (λ (x : JobState). x.number) (sym (one_job j job found)) ∙ same, omega (arith, same, below))
    by false e found again = again found

-- which job is found after one was replaced by another: the new one, under its number, and the same as before under all
-- others
pub found_same : (j : JobState) (jobs : List JobState) (job : JobState) → numbered j.number (with_job j jobs) ≡ Some job → job ≡ j
found_same j jobs job found = by (numbered j.number jobs) (sym (find-put (λ (k : JobState). k.number) j jobs) ∙ found)
  where
    by : (o : Option JobState) → option_map (λ (k : JobState). j) o ≡ Some job → job ≡ j
    by None is = no_job job is
    by (Some k) is = sym (one_job j job is)

pub found_other : (j : JobState) (number : ℕ) → (j.number == number) ≡ false → (jobs : List JobState) → numbered number (with_job j jobs) ≡ numbered number jobs
found_other j number other jobs = find-put_other (λ (k : JobState). k.number) j number other jobs

-- which job is found after the job of a number is removed: none under that number, and the same as before under all others
pub left_none : (number : ℕ) (jobs : List JobState) → numbered number (without_job number jobs) ≡ None
left_none number jobs = without-none (λ (k : JobState). k.number == number) jobs

pub left_other : (gone number : ℕ) → (gone == number) ≡ false → (jobs : List JobState) → numbered number (without_job gone jobs) ≡ numbered number jobs
left_other gone number other jobs =
    find-without (λ (k : JobState). k.number == number) (λ (k : JobState). k.number == gone) (λ k out. ap (λ (n : ℕ). n == number) (eqb-true k.number gone out) ∙ other) jobs

-- which job is found after one was added: an old one, or the new one
pub found_push : (number : ℕ) (jobs : List JobState) (job found : JobState) → numbered number (jobs ++ job ∷ []) ≡ Some found
    → (numbered number jobs ≡ Some found) ⊎ ((job.number ≡ number) × (found ≡ job))
found_push number [] job found is = by (job.number == number) refl is
  where
    by : (b : Bool) → (job.number == number) ≡ b → (let none : Option JobState = None in cond b (Some job) none ≡ Some found)
        → (numbered number [] ≡ Some found) ⊎ ((job.number ≡ number) × (found ≡ job))
    by true e is = inr (eqb-true job.number number e, sym (one_job job found is))
    by false e is = no_job found is
found_push number (k ∷ jobs) job found is = by (k.number == number) is (λ e. found_push number jobs job found e)
  where
    by : (b : Bool) → cond b (Some k) (numbered number (jobs ++ job ∷ [])) ≡ Some found
        → (numbered number (jobs ++ job ∷ []) ≡ Some found → (numbered number jobs ≡ Some found) ⊎ ((job.number ≡ number) × (found ≡ job)))
        → (cond b (Some k) (numbered number jobs) ≡ Some found) ⊎ ((job.number ≡ number) × (found ≡ job))
    by true is again = inl is
    by false is again = again is

-- the first job that passes a test is the one of its number
pub found_by : (p : JobState → Bool) (low : ℕ) (jobs : List JobState) (top : ℕ) (job : JobState) → AreRising low jobs top → find p jobs ≡ Some job
    → (low ≤ job.number) × (numbered job.number jobs ≡ Some job) × (p job ≡ true)
found_by p low [] top job r is = no_job job is
found_by p low (j ∷ jobs) top job r is = by (p j) refl is (λ e. found_by p (j.number + 1) jobs top job r.1 e)
  where
    by : (b : Bool) → p j ≡ b → cond b (Some j) (find p jobs) ≡ Some job → (find p jobs ≡ Some job → IsOne p (j.number + 1) jobs job) → IsOne p low (j ∷ jobs) job
    by true e is again = one_here p low j jobs top job r e (one_job j job is)
    by false e is again = one_behind p low j jobs top job r (again is)
