pub mod Entries
pub mod InMemory
pub mod Rotten
pub mod Sealing
pub mod SealText
