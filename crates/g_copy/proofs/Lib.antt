pub mod AreaLemmas
pub mod Blocks
pub mod Reading
pub mod Storing
pub mod Writing
