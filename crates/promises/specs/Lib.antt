pub mod Parts
pub mod Outcomes
pub mod Answers
pub mod AnswerLaws
pub mod Promises
pub mod Cores
