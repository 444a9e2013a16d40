pub mod Reader
pub mod Typed
