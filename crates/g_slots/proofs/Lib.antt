pub mod OneWrite
pub mod Filling
pub mod Surviving
