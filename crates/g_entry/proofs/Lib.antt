pub mod FieldLemmas
pub mod RecordLemmas
pub mod OneEncoding
pub mod NameLemmas
pub mod RuleLemmas
pub mod SameLemmas
pub mod ComingLemmas
