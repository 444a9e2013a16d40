pub mod Coding
pub mod Order
pub mod Table
