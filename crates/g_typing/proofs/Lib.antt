pub mod AddLemmas
pub mod BeginLemmas
pub mod HeadLemmas
pub mod QueryLemmas
