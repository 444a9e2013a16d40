mod StepLemmas
mod EventLemmas
mod OneLemmas
mod ProcessLemmas
mod StartLemmas
