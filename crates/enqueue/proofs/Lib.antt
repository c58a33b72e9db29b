pub mod Counts
pub mod Payloads
pub mod Places
pub mod Lasts
pub mod Follow
