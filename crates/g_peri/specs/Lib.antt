pub mod JobUnits
pub mod Layout
pub mod OneOrder
pub mod Transfer
