pub mod AfterLemmas
pub mod EarlyLemmas
pub mod LineLemmas
pub mod LossLemmas
mod MarkLemmas
pub mod ScriptLemmas
pub mod SessionLemmas
