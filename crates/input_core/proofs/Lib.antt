pub mod Checks
pub mod Takes
