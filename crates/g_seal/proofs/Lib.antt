mod DiscLemmas
mod EntryLemmas
mod FieldLemmas
mod LineLemmas
mod OwnLemmas
pub mod OwnTextLemmas
mod ParseLemmas
mod ReelLemmas
mod ReportLemmas
mod RottenLemmas
mod SealLemmas
mod TwinLemmas
mod VersionLemmas
