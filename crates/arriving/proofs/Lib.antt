pub mod Views
pub mod Moves
pub mod Freeing
