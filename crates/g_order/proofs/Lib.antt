pub mod CodingLaws
pub mod TableLaws
