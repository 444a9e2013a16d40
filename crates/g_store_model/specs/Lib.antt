-- The states of the whole store, and the effect of each event on them.
pub mod State
pub mod CallStep
pub mod DumpSteps
pub mod Rising
pub mod StartLaws
pub mod Process
pub mod ProcessLaws
pub mod Laws
