pub mod Tests
pub mod FlownLaws
pub mod Verdicts
pub mod VerdictLaws
