pub mod CursorLemmas
pub mod DocumentLemmas
pub mod LineLemmas
pub mod NumberLemmas
