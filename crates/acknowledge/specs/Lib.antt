pub mod Flights
pub mod Furthest
pub mod FurthestLaws
pub mod Hearing
