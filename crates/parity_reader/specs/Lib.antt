pub mod VerifyLaws
pub mod OutputLaws
pub mod CallLaws
