pub mod Parts
pub mod Tick
pub mod Turning
pub mod Watch
