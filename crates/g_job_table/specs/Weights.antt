-- The weights of jobs by a rule, stored with the jobs.
use Rattle.std.specs.Prelude.{◌≡◌, ℕ, List, Some, length, slice_get}
use Rattle.std.specs.Fn.{FnReturnsAt, Shared}
use denote.Ref.{Bor}
use Rattle.g_rules.specs.declared.rule.Standing.{Standing}
use Rattle.g_job.specs.Beginning.{standing_of}
use Rattle.g_job.specs.State.{JobState}

module _ {U : Type 0} (rules : Shared U (Bor Standing × Unit {0}) ℕ) (rule : U) where
  -- EACH JOB'S WEIGHT, at its place, is the rule's answer for the job.
  abbrev pub AreWeights : List JobState → List ℕ → Type 0
  AreWeights jobs weights =
      (length weights ≡ length jobs)
      × ((place : ℕ) (job : JobState) → slice_get jobs place ≡ Some job → (weight : ℕ) × (slice_get weights place ≡ Some weight) × FnReturnsAt rules rule (standing_of job) weight)

  -- The same for all jobs except that of this number.
  abbrev pub AreOthers : ℕ → List JobState → List ℕ → Type 0
  AreOthers number jobs weights =
      (place : ℕ) (job : JobState) → slice_get jobs place ≡ Some job → (job.number ≡ number → ⊥)
      → (weight : ℕ) × (slice_get weights place ≡ Some weight) × FnReturnsAt rules rule (standing_of job) weight
