-- Users and files as numbered records, and the tree of names that they represent.
pub mod Records
pub mod State
pub mod Codes
pub mod Places
pub mod Answers
pub mod AskedRecords
pub mod Names
