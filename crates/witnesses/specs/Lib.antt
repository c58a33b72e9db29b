pub mod OfStations
pub mod OfStreams
pub mod Blocks
pub mod OfEndpoints
pub mod OfQuiet
pub mod OfTwoEnds
