pub mod ValidDecides
pub mod ReadyLaws
