pub mod Turns
pub mod Able
