pub mod Onward
pub mod Sweep
