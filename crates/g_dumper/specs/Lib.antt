pub mod Beginning
pub mod Invariant
pub mod Steps
