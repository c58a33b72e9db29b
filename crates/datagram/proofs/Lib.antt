pub mod JoinedLaws
pub mod StepLaws
