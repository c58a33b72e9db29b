pub mod Pushing
pub mod Keeping
