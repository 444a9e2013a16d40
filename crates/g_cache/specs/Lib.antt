pub mod Absent
pub mod CachedDisc
pub mod Places
