pub mod Copy
pub mod Fault
pub mod Store
pub mod Laws
