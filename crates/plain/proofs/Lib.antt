pub mod AsNumbers
pub mod Steps
