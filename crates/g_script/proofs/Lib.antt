pub mod DocumentLemmas
pub mod HeadLemmas
pub mod ItemLemmas
pub mod OneReading
mod OnlyLemmas
pub mod PieceLemmas
pub mod PrintedLemmas
pub mod ReadLemmas
pub mod SaidLemmas
