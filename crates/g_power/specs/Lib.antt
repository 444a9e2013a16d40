pub mod CutReel
pub mod CutTapes
