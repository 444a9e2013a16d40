pub mod Commits
pub mod Contents
pub mod Facts
pub mod QuietWrites
pub mod Parts
pub mod Durable
