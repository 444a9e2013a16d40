pub mod Demo
pub mod Input
pub mod Laws
pub mod NextLine
pub mod ScriptEnd
pub mod Top
