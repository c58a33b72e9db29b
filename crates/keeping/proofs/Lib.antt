pub mod Orders
pub mod Places
pub mod Finds
pub mod Keeps
