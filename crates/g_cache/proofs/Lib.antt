pub mod AbsentLemmas
pub mod KeptLemmas
pub mod PlaceLemmas
