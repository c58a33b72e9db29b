pub mod Datagrams
pub mod FoundLaws
pub mod WalkLaws
pub mod StepLaws
pub mod Joined
