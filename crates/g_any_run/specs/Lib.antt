pub mod Accounts
pub mod Devices
pub mod Events
pub mod Jobs
pub mod Lines
pub mod Moves
pub mod Texts
pub mod World
