-- Jobs by number: changes preserve the order of numbers, and a job at a place is the one of its number.
-- serves: end (job, jobs, kept, settled), go_down, logout, push, push_at (there), push_shown, turn (err, gone, ok), type_line, ChoiceLemmas, and 2 more
use Rattle.std.proofs.Common.{◌≡◌, ◌+◌, ◌-◌, ◌<◌, ◌≤◌, ◌∙◌, ◌==◌, ◌++◌, ◌∷◌, [], All, Bool, List, None, Some, ap, arith, cond, eq-eqb, false, filter, get_or, length, length-set, ne_eqb, not, refl, set, slice_get, subst, suc, sym, true, zero, ℕ}
use Rattle.std.specs.List.{remove}
use Rattle.std.proofs.lemmas.Bool.{cond_both}
use Rattle.std.proofs.lemmas.List.{drop-set-lt, length_push, take-set}
use Rattle.std.proofs.lemmas.List.Edits.{length-remove}
use Rattle.std.proofs.lemmas.List.Elements.{All-filter, All-get_or, All-nil, All-push, All-set}
use Rattle.std.proofs.lemmas.Option.{get_or_from_slice_get, none-some, same_Some, slice_get_within}
use Rattle.g_job_table.specs.Numbers.{AreJobs, IsAllowed, Rise, job_in}
use Rattle.g_job.specs.State.{JobState}
use Rattle.g_job_table.proofs.AccountLemmas.{cond_none}
use Rattle.g_run_model.specs.World.{with_job, without_job}

pub Rise-low : (low less : ℕ) (jobs : List JobState) (next : ℕ) → less ≤ low → Rise low jobs next → Rise less jobs next
Rise-low low less [] next le r = omega (arith, le, r)
Rise-low low less (j ∷ jobs) next le (first, more) = (omega (arith, le, first), more)

pub Rise-next : (low : ℕ) (jobs : List JobState) (next : ℕ) → Rise low jobs next → low ≤ next
Rise-next low [] next r = r
Rise-next low (j ∷ jobs) next (first, more) = let later = Rise-next (j.number + 1) jobs next more in omega (arith, first, later)

pub Rise-push : (low : ℕ) (jobs : List JobState) (next : ℕ) (j : JobState) → Rise low jobs next → j.number ≡ next → Rise low (jobs ++ j ∷ []) (next + 1)
Rise-push low [] next j r is = (omega (arith, r, is), omega (arith, is))
Rise-push low (k ∷ jobs) next j (first, more) is = (first, Rise-push (k.number + 1) jobs next j more is)

pub Rise-at : (low : ℕ) (jobs : List JobState) (next k : ℕ) (b : JobState) → Rise low jobs next → slice_get jobs k ≡ Some b → low ≤ b.number
Rise-at low [] next k b r there = absurd (none-some b there)
Rise-at low (j ∷ jobs) next zero b (first, more) there = omega (arith, first, ap (λ (x : JobState). x.number) (same_Some j b there))
Rise-at low (j ∷ jobs) next (suc k) b (first, more) there = let later = Rise-at (j.number + 1) jobs next k b more there in omega (arith, first, later)

-- of two jobs, the earlier one has no greater number
pub Rise-two : (low : ℕ) (jobs : List JobState) (next i k : ℕ) (a b : JobState) → Rise low jobs next → i ≤ k → slice_get jobs i ≡ Some a → slice_get jobs k ≡ Some b → a.number ≤ b.number
Rise-two low [] next i k a b r order here there = absurd (none-some a here)
Rise-two low (j ∷ jobs) next zero k a b (first, more) order here there =
    let least : j.number ≤ b.number = Rise-at j.number (j ∷ jobs) next k b (omega arith, more) there in
    omega (arith, least, ap (λ (x : JobState). x.number) (same_Some j a here))
Rise-two low (j ∷ jobs) next (suc i) zero a b r order here there = absurd (omega (arith, order))
Rise-two low (j ∷ jobs) next (suc i) (suc k) a b (first, more) order here there = Rise-two (j.number + 1) jobs next i k a b more (omega (arith, order)) here there

pub Rise-filter : (p : JobState → Bool) (low : ℕ) (jobs : List JobState) (next : ℕ) → Rise low jobs next → Rise low (filter p jobs) next
Rise-filter p low [] next r = r
Rise-filter p low (j ∷ jobs) next (first, more) =
    let rest = Rise-filter p (j.number + 1) jobs next more in
    cond_both (p j) (j ∷ filter p jobs) (filter p jobs) (λ ks. Rise low ks next) (λ here. (first, rest))
    (λ gone. Rise-low (j.number + 1) low (filter p jobs) next (omega (arith, first)) rest)

-- a job is replaced by another of the same number
pub Rise-set : (low : ℕ) (jobs : List JobState) (next place : ℕ) (j k : JobState) → Rise low jobs next → slice_get jobs place ≡ Some j → k.number ≡ j.number → Rise low (set jobs place k) next
Rise-set low [] next place j k r there is = absurd (none-some j there)
Rise-set low (m ∷ jobs) next zero j k (first, more) there is =
    let same : m ≡ j = same_Some m j there in
    let numbers : k.number ≡ m.number = is ∙ ap (λ (x : JobState). x.number) (sym same) in
    (omega (arith, first, numbers), Rise-low (m.number + 1) (k.number + 1) jobs next (omega (arith, numbers)) more)
Rise-set low (m ∷ jobs) next (suc place) j k (first, more) there is = (first, Rise-set (m.number + 1) jobs next place j k more there is)

other : (m n : ℕ) → n < m → (m == n) ≡ false
other m n below = ne_eqb m n (λ e. absurd (omega (arith, e, below)))

-- where all numbers are greater
absent : (low : ℕ) (jobs : List JobState) (next n : ℕ) → Rise low jobs next → n < low
    → (job_in n jobs ≡ None) × (without_job n jobs ≡ jobs) × ((k : JobState) → k.number ≡ n → with_job k jobs ≡ jobs)
absent low [] next n r below = (refl, refl, λ k is. refl)
absent low (j ∷ jobs) next n (first, more) below =
    let apart : (j.number == n) ≡ false = other j.number n (omega (arith, first, below)) in
    let rest = absent (j.number + 1) jobs next n more (omega (arith, first, below)) in (
      ap (λ (b : Bool). cond b (Some j) (job_in n jobs)) apart ∙ rest.0,
      ap (λ (b : Bool). cond (not b) (j ∷ without_job n jobs) (without_job n jobs)) apart ∙ ap (λ ks. j ∷ ks) rest.1,
      λ k is.
          let apart' : (j.number == k.number) ≡ false = other j.number k.number (omega (arith, first, below, is)) in
          ap (λ (b : Bool). cond b k j ∷ with_job k jobs) apart' ∙ ap (λ ks. j ∷ ks) (rest.2 k is),
    )

remove_first : (j : JobState) (jobs : List JobState) → remove (j ∷ jobs) 0 ≡ jobs
remove_first j [] = refl
remove_first j (k ∷ jobs) = refl

-- a job at a place is the only one of its number
pub record IsOnly (jobs : List JobState) (place : ℕ) (j : JobState) : Type 0 where
  pub found : job_in j.number jobs ≡ Some j
  pub gone : without_job j.number jobs ≡ remove jobs place
  pub changed : (k : JobState) → k.number ≡ j.number → with_job k jobs ≡ set jobs place k

pub only_at : (low : ℕ) (jobs : List JobState) (next place : ℕ) (j : JobState) → Rise low jobs next → slice_get jobs place ≡ Some j → (low ≤ j.number) × IsOnly jobs place j
only_at low [] next place j r there = absurd (none-some j there)
only_at low (m ∷ jobs) next zero j (first, more) there =
    let same : m ≡ j = same_Some m j there in
    let rest = absent (m.number + 1) jobs next m.number more (omega arith) in
    let here : (m.number == m.number) ≡ true = eq-eqb m.number m.number refl in
    subst (λ (x : JobState). (low ≤ x.number) × IsOnly (m ∷ jobs) 0 x) same (
      first,
      record {
        found = ap (λ (b : Bool). cond b (Some m) (job_in m.number jobs)) here;
        gone = ap (λ (b : Bool). cond (not b) (m ∷ without_job m.number jobs) (without_job m.number jobs)) here ∙ rest.1 ∙ sym (remove_first m jobs);
        changed = λ k is.
            let mine : (m.number == k.number) ≡ true = eq-eqb m.number k.number (sym is) in
            ap (λ (b : Bool). cond b k m ∷ with_job k jobs) mine ∙ ap (λ ks. k ∷ ks) (rest.2 k is);
      },
    )
only_at low (m ∷ jobs) next (suc place) j (first, more) there =
    let (above, only) = only_at (m.number + 1) jobs next place j more there in
    let apart : (m.number == j.number) ≡ false = ne_eqb m.number j.number (λ e. absurd (omega (arith, e, above))) in (
      omega (arith, first, above),
      record {
        found = ap (λ (b : Bool). cond b (Some m) (job_in j.number jobs)) apart ∙ only.found;
        gone = ap (λ (b : Bool). cond (not b) (m ∷ without_job j.number jobs) (without_job j.number jobs)) apart ∙ ap (λ ks. m ∷ ks) only.gone;
        changed = λ k is.
            let apart' : (m.number == k.number) ≡ false = ap (λ (n : ℕ). m.number == n) is ∙ apart in
            ap (λ (b : Bool). cond b k m ∷ with_job k jobs) apart' ∙ ap (λ ks. m ∷ ks) (only.changed k is);
      },
    )

pub IsOnly-at : (low : ℕ) (jobs : List JobState) (next place : ℕ) (j : JobState) → Rise low jobs next → slice_get jobs place ≡ Some j → IsOnly jobs place j
IsOnly-at low jobs next place j r there = (only_at low jobs next place j r there).1

-- a job after others of smaller numbers
later_found : (m j : JobState) (low : ℕ) (jobs : List JobState) → low ≤ m.number → (m.number + 1 ≤ j.number) × (job_in j.number jobs ≡ Some j)
    → (low ≤ j.number) × (job_in j.number (m ∷ jobs) ≡ Some j)
later_found m j low jobs first (above, found) =
    let unlike : (m.number == j.number) ≡ false = ne_eqb m.number j.number (λ e. absurd (omega (arith, e, above))) in
    (omega (arith, first, above), ap (λ (b : Bool). cond b (Some m) (job_in j.number jobs)) unlike ∙ found)

here_found : (m j : JobState) (low : ℕ) (jobs kept : List JobState) (place : ℕ) → low ≤ m.number
    → ((q : ℕ) → slice_get kept q ≡ Some j → (low ≤ j.number) × (job_in j.number (m ∷ jobs) ≡ Some j))
    → slice_get (m ∷ kept) place ≡ Some j → (low ≤ j.number) × (job_in j.number (m ∷ jobs) ≡ Some j)
here_found m j low jobs kept zero first later at =
    subst (λ (x : JobState). (low ≤ x.number) × (job_in x.number (m ∷ jobs) ≡ Some x)) (same_Some m j at)
    (first, ap (λ (b : Bool). cond b (Some m) (job_in m.number jobs)) (eq-eqb m.number m.number refl))
here_found m j low jobs kept (suc q) first later at = later q at

able_from : (p : JobState → Bool) (low : ℕ) (jobs : List JobState) (next place : ℕ) (j : JobState) → Rise low jobs next → slice_get (filter p jobs) place ≡ Some j
    → (low ≤ j.number) × (job_in j.number jobs ≡ Some j)
able_from p low [] next place j r there = absurd (none-some j there)
able_from p low (m ∷ jobs) next place j (first, more) there =
    let later = (λ (q : ℕ) (at : slice_get (filter p jobs) q ≡ Some j). later_found m j low jobs first (able_from p (m.number + 1) jobs next q j more at)) in
    cond_both (p m) (m ∷ filter p jobs) (filter p jobs) (λ ks. slice_get ks place ≡ Some j → (low ≤ j.number) × (job_in j.number (m ∷ jobs) ≡ Some j))
    (λ able. here_found m j low jobs (filter p jobs) place first later) (λ not_able. later place) there

-- a job that passes a filter is the one of its number
pub found-able : (p : JobState → Bool) (low : ℕ) (jobs : List JobState) (next place : ℕ) (j : JobState) → Rise low jobs next → slice_get (filter p jobs) place ≡ Some j
    → job_in j.number jobs ≡ Some j
found-able p low jobs next place j r there = (able_from p low jobs next place j r there).1

-- if no job has the number, none is removed
pub without-none : (n : ℕ) (jobs : List JobState) → job_in n jobs ≡ None → without_job n jobs ≡ jobs
without-none n [] none = refl
without-none n (j ∷ jobs) none =
    let (unlike, before) = cond_none (j.number == n) j (job_in n jobs) none in
    ap (λ (b : Bool). cond (not b) (j ∷ without_job n jobs) (without_job n jobs)) unlike ∙ ap (λ ks. j ∷ ks) (without-none n jobs before)

-- a crew without the job at a place
pub AreJobs-remove : (jobs : List JobState) (next place : ℕ) (j : JobState) → AreJobs jobs next → slice_get jobs place ≡ Some j → AreJobs (remove jobs place) next
AreJobs-remove jobs next place j are there =
    let only = IsOnly-at 1 jobs next place j are.rise there in
    record {
      few = omega (arith, are.few, length-remove jobs place (slice_get_within jobs place j there));
      rise = subst (λ ks. Rise 1 ks next) only.gone (Rise-filter (λ (k : JobState). not (k.number == j.number)) 1 jobs next are.rise);
      allowed = subst (λ ks. All IsAllowed ks) only.gone (All-filter (λ (k : JobState). not (k.number == j.number)) IsAllowed jobs are.allowed);
    }

-- with a job appended
pub AreJobs-push : (jobs : List JobState) (next : ℕ) (j : JobState) → AreJobs jobs next → length jobs < 64 → j.number ≡ next → IsAllowed j → AreJobs (jobs ++ j ∷ []) (next + 1)
AreJobs-push jobs next j are room is allowed = record {
  few = omega (arith, room, length_push jobs j);
  rise = Rise-push 1 jobs next j are.rise is;
  allowed = All-push IsAllowed jobs j are.allowed allowed;
}

-- with a job replaced by another of the same number and allowance
pub AreJobs-set : (jobs : List JobState) (next place : ℕ) (j k : JobState) → AreJobs jobs next → slice_get jobs place ≡ Some j → k.number ≡ j.number → k.allowance ≡ j.allowance
    → AreJobs (set jobs place k) next
AreJobs-set jobs next place j k are there is same = record {
  few = omega (arith, are.few, length-set jobs place k);
  rise = Rise-set 1 jobs next place j k are.rise there is;
  allowed = All-set IsAllowed jobs place k (subst (λ (n : ℕ). n ≤ 1000000) (sym same) here) are.allowed;
}
  where
    here : IsAllowed j
    here = subst IsAllowed (get_or_from_slice_get jobs place j j there) (All-get_or IsAllowed jobs place j (slice_get_within jobs place j there) are.allowed)

-- without jobs
pub AreJobs-none : (jobs : List JobState) (next : ℕ) → AreJobs jobs next → AreJobs [] next
AreJobs-none jobs next are = record { few = omega arith; rise = Rise-next 1 jobs next are.rise; allowed = All-nil IsAllowed }

-- what was written at a place is removed there
pub remove-set : (jobs : List JobState) (place : ℕ) (j : JobState) → remove (set jobs place j) place ≡ remove jobs place
remove-set jobs place j = λ i. take-set jobs place j i ++ drop-set-lt (suc place) jobs place j (omega arith) i

-- a job of the next number is found at the end
pub found-pushed : (low : ℕ) (jobs : List JobState) (next : ℕ) (j : JobState) → Rise low jobs next → j.number ≡ next → job_in j.number (jobs ++ j ∷ []) ≡ Some j
found-pushed low [] next j r is = ap (λ (b : Bool). cond b (Some j) None) (eq-eqb j.number j.number refl)
found-pushed low (k ∷ jobs) next j (first, more) is =
    let later = Rise-next (k.number + 1) jobs next more in
    let apart : (k.number == j.number) ≡ false = ne_eqb k.number j.number (λ e. absurd (omega (arith, e, later, is))) in
    ap (λ (b : Bool). cond b (Some k) (job_in j.number (jobs ++ j ∷ []))) apart ∙ found-pushed (k.number + 1) jobs next j more is

-- there is only one job at a place
pub same-at : (jobs : List JobState) (place : ℕ) (job a b : JobState) → slice_get jobs place ≡ Some job → a ≡ get_or jobs place a → b ≡ get_or jobs place b → a ≡ b
same-at jobs place job a b there first second = first ∙ get_or_from_slice_get jobs place job a there ∙ sym (second ∙ get_or_from_slice_get jobs place job b there)
