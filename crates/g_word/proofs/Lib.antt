pub mod Shifts
pub mod Places
