-- The definitions that contracts cite: the texts that jobs and operators read.
pub mod JobLines
pub mod Listing
pub mod Parts
pub mod Refusals
pub mod Replies
