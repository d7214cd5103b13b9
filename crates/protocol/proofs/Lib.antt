pub mod Bounds
pub mod Marks
pub mod OneRows
pub mod Runs
pub mod Theorems
