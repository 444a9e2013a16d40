mod LookingLemmas
mod TellingLemmas
mod UnmountLemmas
