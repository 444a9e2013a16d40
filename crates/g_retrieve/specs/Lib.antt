pub mod Invariant
pub mod Retrieval
