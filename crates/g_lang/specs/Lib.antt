pub mod Conditions
pub mod LineReader
pub mod Lines
pub mod Meaning
pub mod Places
pub mod RestBytes
pub mod Texts
pub mod Words
