pub mod ControlLaws
pub mod DataLaws
pub mod WalkLaws
pub mod WriteLaws
