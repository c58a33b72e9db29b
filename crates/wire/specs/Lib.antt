pub mod LittleEndian
pub mod LittleEndianLaws
pub mod Headers
pub mod HeaderLaws
pub mod Stores
