pub mod Gathering
pub mod KnownDumps
pub mod Losses
pub mod Places
pub mod Reels
pub mod Restoration
pub mod Steps
