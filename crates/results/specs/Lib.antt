pub mod PlaceCodes
pub mod Places
pub mod Times
