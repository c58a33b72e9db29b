pub mod Writing
pub mod Flushes
pub mod FlushLaws
pub mod IdleLaws
pub mod ValidLaws
