pub mod FileFields
pub mod Formats
pub mod HeadFields
pub mod Rules
pub mod UserFields
pub mod FileNames
pub mod SingleRules
pub mod Comparison
