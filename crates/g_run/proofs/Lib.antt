pub mod AnewLemmas
mod DemoLemmas
pub mod FilestoreLemmas
pub mod InputLemmas
pub mod LawLemmas
pub mod LeaveLemmas
pub mod LineLemmas
pub mod LittleLemmas
pub mod NextLemmas
pub mod OverLemmas
pub mod ReadingLemmas
pub mod TopLemmas
