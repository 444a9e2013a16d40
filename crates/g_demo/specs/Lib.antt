pub mod Script
pub mod Sink
pub mod Summary
pub mod Words
