pub mod Step
pub mod Walked
