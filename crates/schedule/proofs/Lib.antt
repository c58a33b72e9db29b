pub mod Distances
pub mod Kept
