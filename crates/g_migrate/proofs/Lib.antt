pub mod CandidateLemmas
pub mod FrontLemmas
pub mod KeepsLemmas
pub mod MigrationLemmas
pub mod NothingLemmas
pub mod PlanLemmas
pub mod UsedLemmas
