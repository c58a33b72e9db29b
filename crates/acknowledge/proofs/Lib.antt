pub mod Concern
pub mod Hearing
pub mod Owned
pub mod Removal
pub mod Skips
pub mod Walks
