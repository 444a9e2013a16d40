-- The choice of the next job.
use Rattle.std.specs.Prelude.{◌≡◌, ℕ, Bool, true, List, map, filter, Option, Some, None, MatchOption, slice_get}
use Rattle.std.specs.Fn.{Shared}
use denote.Ref.{Bor}
use Rattle.g_rules.specs.declared.choice.Candidate.{Candidate}
use Rattle.g_rules.specs.declared.rule.Standing.{Standing}
use Rattle.g_rules.specs.Choice.{IsChosen}
use Rattle.g_job.specs.Beginning.{standing_of}
use Rattle.g_job.specs.State.{JobState}
use Rattle.g_store_model.specs.State.{State, is_mounted}
use Rattle.g_run_model.specs.World.{can_step, has_none}
use Rattle.g_job_table.specs.Numbers.{job_in}

-- The closure says which reels are mounted in this state.
abbrev pub TellsMounted : {M : Type 0} → Shared M (ℕ × Unit {0}) Bool → M → State → Type 0
TellsMounted {M} calls mounted s = (serial : ℕ) (answer : Bool) → calls.post mounted (serial, tt) answer → answer ≡ is_mounted s serial

-- The jobs that can step in this state.
abbrev pub able_in : State → List JobState → List JobState
able_in s jobs = filter (can_step s) jobs

module _ {U : Type 0} (rules : Shared U (Bor Standing × Unit {0}) ℕ) (rule : U) where
  -- THE NUMBER OF THE NEXT JOB: the rule chooses it among those that can step, and it is the only job of its number; none if none can step.
  abbrev pub Chooses : List JobState → List JobState → Option ℕ → Type 0
  Chooses jobs able None = has_none able ≡ true
  Chooses jobs able (Some number) = (place : ℕ) × (job : JobState) × IsChosen rules rule (map standing_of able) place
      × (slice_get able place ≡ Some job) × (job.number ≡ number) × (job_in number jobs ≡ Some job)

  -- None if there are no such jobs; otherwise the one that the rule chooses, with its number.
  abbrev pub IsFirst : List JobState → Option Candidate → Type 0
  IsFirst able first =
      MatchOption first (has_none able ≡ true) (λ c.
      IsChosen rules rule (map standing_of able) c.place × ((job : JobState) × (slice_get able c.place ≡ Some job) × (job.number ≡ c.number)))
