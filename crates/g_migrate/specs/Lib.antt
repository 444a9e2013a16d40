pub mod Candidates
pub mod Invariant
pub mod Migration
pub mod UnjamPlan
