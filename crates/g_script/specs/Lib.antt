pub mod HeadReader
pub mod Reading
pub mod Script
