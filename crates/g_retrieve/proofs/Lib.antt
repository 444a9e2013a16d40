pub mod AllowLemmas
pub mod BackLemmas
pub mod ContentLemmas
pub mod HeldLemmas
pub mod KeepsLemmas
pub mod TextLemmas
