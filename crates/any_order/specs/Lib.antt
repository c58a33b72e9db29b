pub mod Removing
pub mod RemovingLaws
pub mod Numbers
pub mod NumberLaws
pub mod Hearing
pub mod OtherCallLaws
pub mod HearingLaws
