pub mod Packers
pub mod PackerLaws
pub mod Writers
