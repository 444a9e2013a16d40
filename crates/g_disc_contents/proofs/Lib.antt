pub mod CommitLemmas
pub mod HoldLemmas
pub mod PartLemmas
pub mod SurvivalLemmas
