pub mod Forms
pub mod Parameters
pub mod Ranges
pub mod Tables
pub mod VerbReader
pub mod Verbs
