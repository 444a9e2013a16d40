pub mod CallLemmas
pub mod EventLemmas
pub mod FrontLemmas
pub mod TakenLemmas
