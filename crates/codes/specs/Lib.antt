pub mod Codes
pub mod Gives
