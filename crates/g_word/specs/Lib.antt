pub mod Characters
pub mod Octal
pub mod Word
