pub mod Anew
pub mod Asking
pub mod Ending
pub mod Exchanging
pub mod Parts
pub mod Session
pub mod Taking
pub mod Standing
