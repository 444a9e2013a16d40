mod AdoptLemmas
pub mod ArmLemmas
mod CompleteLemmas
mod EmptyLemmas
pub mod EventLemmas
mod FormatLemmas
mod FullLemmas
mod GreatestLemmas
mod LossLemmas
pub mod MakeLemmas
mod MigrateLemmas
mod MigratedLemmas
pub mod MountLemmas
mod MovedLemmas
mod NameLemmas
mod NamedLemmas
mod NotedLemmas
mod OffLemmas
pub mod OpenedLemmas
mod OwnPlaceLemmas
mod ProcessCompleteLemmas
pub mod ProcessedLemmas
pub mod ProcessedRowsLemmas
pub mod ProcessedStepLemmas
mod ProcessedTreeLemmas
mod ProcessingLemmas
mod RestoreLemmas
mod RestoredLemmas
mod SafeLemmas
mod ShelvesLemmas
mod StartLemmas
mod StartedLemmas
mod StepLemmas
pub mod SteppedLemmas
mod TakeLemmas
pub mod TurnLemmas
mod WrittenLemmas
