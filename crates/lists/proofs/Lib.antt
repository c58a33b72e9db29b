pub mod Loops
pub mod Writes
pub mod Searches
pub mod Advances
pub mod AcknowledgingLaws
pub mod Kept
