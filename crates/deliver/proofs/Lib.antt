pub mod Fronts
pub mod Copies
pub mod Sizes
