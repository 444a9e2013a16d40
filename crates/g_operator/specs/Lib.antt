pub mod Arming
pub mod Asking
pub mod Reels
pub mod Rising
