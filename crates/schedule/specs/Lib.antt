pub mod Schedules
pub mod ScheduleLaws
pub mod Quiet
pub mod ScheduleExamples
