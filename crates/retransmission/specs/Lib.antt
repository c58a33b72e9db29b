pub mod Transmissions
pub mod TransmissionLaws
