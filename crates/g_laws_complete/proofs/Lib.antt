pub mod CompleteLemmas
pub mod UntoldLemmas
