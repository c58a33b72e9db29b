pub mod Lines
pub mod LineLaws
pub mod Listings
pub mod ListingLaws
pub mod Puts
pub mod Examples
