pub mod Cards
pub mod Listing
