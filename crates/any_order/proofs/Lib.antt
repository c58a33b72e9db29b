pub mod AnyOrder
pub mod Shuffled
pub mod NumberLaws
