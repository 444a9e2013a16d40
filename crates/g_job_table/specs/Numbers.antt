-- Jobs are identified by their numbers.
use Rattle.std.specs.Prelude.{◌≡◌, ℕ, ◌+◌, ◌≤◌, ◌==◌, All, List, [], ◌∷◌, length, Option, find, false}
use Rattle.g_job.specs.State.{JobState}

-- The job of a number.
abbrev pub job_in : ℕ → List JobState → Option JobState
job_in number jobs = find (λ j. j.number == number) jobs

-- The numbers of jobs rise, begin at `low` or above, and are all below `next`.
abbrev pub Rise : ℕ → List JobState → ℕ → Type 0
Rise low [] next = low ≤ next
Rise low (j ∷ jobs) next = (low ≤ j.number) × Rise (j.number + 1) jobs next

-- The allowance is at most 1,000,000 units of TIME.
abbrev pub IsAllowed : JobState → Type 0
IsAllowed j = j.allowance ≤ 1000000

-- THE RULES OF A CREW: at most 64 jobs, in order of their numbers, which begin with 1, each with an allowance in range.
pub record AreJobs (jobs : List JobState) (next : ℕ) : Type 0 where
  pub few : length jobs ≤ 64
  pub rise : Rise 1 jobs next
  pub allowed : All IsAllowed jobs

-- Every job can take a turn.
abbrev pub AreOpen : List JobState → Type 0
AreOpen jobs = All (λ j. j.over ≡ false) jobs
