pub mod Moves
pub mod RoundTrip
pub mod Trip
