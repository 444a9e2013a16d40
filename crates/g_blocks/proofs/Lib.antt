mod Between
mod Full
pub mod Marks
pub mod Least
