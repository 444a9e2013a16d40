pub mod Early
pub mod Asked
pub mod Session
pub mod Laws
