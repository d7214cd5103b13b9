pub mod Images
pub mod Sizes
