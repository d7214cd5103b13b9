pub mod Lines
pub mod Listings
pub mod Room
