pub mod Recovery
pub mod ReadingLaws
pub mod RoundTrip
