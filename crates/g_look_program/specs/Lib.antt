pub mod BothRacks
pub mod Exit
pub mod Telling
pub mod Words
