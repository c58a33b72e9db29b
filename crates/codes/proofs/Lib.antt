pub mod Signs
pub mod Told
