pub mod Parts
pub mod Flushes
