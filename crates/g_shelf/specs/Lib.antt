pub mod CompletedDumps
pub mod FoundDumps
pub mod HeldBlocks
pub mod LastDump
pub mod QuietWrites
pub mod ReaderSteps
pub mod Surviving
pub mod Walk
