pub mod BlocksLemmas
pub mod CallLemmas
pub mod DurableLemmas
