pub mod BlockLemmas
pub mod CountLemmas
pub mod FieldLemmas
pub mod FuseLemmas
pub mod KeyLemmas
pub mod SetLemmas
pub mod ToldLemmas
