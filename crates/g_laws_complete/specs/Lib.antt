pub mod Completeness
pub mod UntoldStores
