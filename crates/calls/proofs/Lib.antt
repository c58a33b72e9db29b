pub mod Paced
pub mod Checks
pub mod Written
pub mod Named
pub mod Taking
