mod AnewLemmas
mod AnswerLemmas
mod AsTypedLemmas
mod BrokenLemmas
mod ClaimLemmas
mod EndLemmas
mod EndingLemmas
mod GrowLemmas
mod KeepLemmas
mod LinesLemmas
mod OverallLemmas
mod ReplyLemmas
mod SoFarLemmas
mod StandsLemmas
mod TakeLemmas
pub mod StandingLemmas
