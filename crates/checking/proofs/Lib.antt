pub mod Turns
pub mod Ascents
pub mod Joins
pub mod Lines
pub mod Halves
pub mod Whole
pub mod Kept
