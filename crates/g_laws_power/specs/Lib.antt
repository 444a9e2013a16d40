pub mod Devices
pub mod Events
pub mod Losses
pub mod Refusals
