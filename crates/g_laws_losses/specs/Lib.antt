pub mod Answered
pub mod NextRun
