pub mod Block
pub mod Counts
pub mod Fields
pub mod Fuse
pub mod Limits
pub mod ToldContent
