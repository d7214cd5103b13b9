pub mod Begun
pub mod Cards
pub mod Differ
pub mod Trip
