pub mod BelongLemmas
pub mod ChangeLemmas
pub mod DirectoryLemmas
pub mod GatheredLemmas
pub mod OneLemmas
pub mod SafeLemmas
pub mod StayLemmas
pub mod ViewLemmas
