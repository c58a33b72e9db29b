pub mod Congestions
pub mod CongestionLaws
pub mod CongestionExamples
