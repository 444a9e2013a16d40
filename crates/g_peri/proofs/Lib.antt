pub mod LayoutLaws
pub mod OrderLaws
pub mod WriterLemmas
