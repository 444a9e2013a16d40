-- Lemmas on maps, and from records to the tree.
pub mod AnswerLemmas
pub mod ChangeLemmas
pub mod CountLemmas
pub mod EntryLemmas
pub mod FaultLemmas
pub mod FirstLemmas
pub mod GrantLemmas
pub mod IndexLemmas
pub mod InUserLemmas
pub mod LawLemmas
pub mod ListLemmas
pub mod MapLemmas
pub mod NamedLemmas
pub mod PlaceLemmas
pub mod PutLemmas
pub mod RecordLemmas
pub mod ResultLemmas
pub mod RightLemmas
pub mod RoomLemmas
pub mod RuleLemmas
mod SortedLemmas
pub mod TrapLemmas
pub mod UserLemmas
