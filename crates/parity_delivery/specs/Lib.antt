pub mod Recovered
pub mod PackedLaws
