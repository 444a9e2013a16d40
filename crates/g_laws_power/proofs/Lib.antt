pub mod DeviceLemmas
pub mod DownLemmas
pub mod EventLemmas
mod LeftLemmas
pub mod ProcessLossLemmas
pub mod ProcessStateLemmas
pub mod RefusalLemmas
pub mod StepLemmas
pub mod StepStateLemmas
pub mod SurvivalLemmas
