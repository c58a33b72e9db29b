pub mod Protocol
pub mod Ranges
pub mod Refusals
pub mod Serial
pub mod SerialLaws
