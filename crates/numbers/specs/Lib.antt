pub mod Flat
pub mod From
