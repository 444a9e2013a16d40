pub mod CallLemmas
pub mod ChoiceLemmas
pub mod GoesLemmas
pub mod LineLemmas
pub mod ReadyLemmas
