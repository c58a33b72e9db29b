pub mod Noting
pub mod Steps
pub mod Pushed
pub mod Starts
pub mod Walks
