pub mod Flags
pub mod Pool
