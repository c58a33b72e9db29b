pub mod Halves
pub mod Pushes
