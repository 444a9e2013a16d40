-- The definitions that contracts cite: the crew, its accounts and those of a world, a job's turn, and the choice of the next one.
pub mod Accounts
pub mod Choice
pub mod Crew
pub mod Keeping
pub mod Numbers
pub mod Seating
pub mod Taking
pub mod Turn
pub mod Weights
