pub mod Enqueueing
