mod BothLemmas
mod LookLemmas
mod MountLemmas
mod ReportLemmas
mod WordLemmas
