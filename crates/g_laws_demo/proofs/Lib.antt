pub mod GoodLemmas
pub mod Items
