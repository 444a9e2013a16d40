-- Lemmas on pairs in rising user number.
pub mod Places
