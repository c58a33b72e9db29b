pub mod Fronts
pub mod Pairs
pub mod Kept
