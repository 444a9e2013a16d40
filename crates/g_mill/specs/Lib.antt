pub mod OrderReplies
pub mod Effect
pub mod Loading
pub mod Lines
pub mod Machine
pub mod Running
