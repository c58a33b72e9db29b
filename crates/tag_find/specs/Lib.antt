pub mod Findings
pub mod FindingLaws
