-- The plain directory tree, and the effects of jobs' calls on it.
pub mod Programs
pub mod Codes
pub mod Faults
pub mod Grants
pub mod PlainAnswers
pub mod PlainStep
pub mod PlainTree
pub mod Runs
pub mod Replies
pub mod Rules
