pub mod ScriptLemmas
pub mod SummaryLemmas
mod Walks
pub mod WordLemmas
