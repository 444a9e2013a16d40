pub mod Layout
pub mod Commit
