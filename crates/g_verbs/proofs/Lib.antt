pub mod AloneLemmas
pub mod NameLemmas
pub mod ParamLemmas
pub mod PlaceLemmas
pub mod ReadLemmas
pub mod SaidLemmas
pub mod WalkLemmas
