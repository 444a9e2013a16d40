pub mod Disc
pub mod Durable
pub mod Memory
