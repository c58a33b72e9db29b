pub mod Standing
pub mod StandingLaws
pub mod Session
pub mod Tried
pub mod Halves
pub mod HalfLaws
