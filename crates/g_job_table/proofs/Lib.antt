pub mod AccountLemmas
pub mod ChoiceLemmas
pub mod NumberLemmas
pub mod OpeningLemmas
pub mod RowLemmas
pub mod SeatLemmas
pub mod TakingLemmas
pub mod WeightLemmas
