pub mod Tags
pub mod Messages
pub mod MessageLaws
