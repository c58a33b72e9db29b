pub mod Ready
pub mod Results
pub mod Paces
pub mod Checks
