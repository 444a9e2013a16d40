-- The definitions of traps: modes as numbers, and the traps of a file.
pub mod ModeSet
pub mod Places
pub mod TrapList
