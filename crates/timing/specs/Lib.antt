pub mod RoundTrips
pub mod Probes
pub mod TimeRanges
pub mod Choices
pub mod RoundTripLaws
pub mod ProbeLaws
