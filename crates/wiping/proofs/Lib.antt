pub mod Cleans
pub mod Wipings
pub mod Shorts
pub mod Sweeps
