pub mod Changes
pub mod ChangeLaws
pub mod OtherNames
