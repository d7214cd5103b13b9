pub mod Step
pub mod Left
pub mod Fit
