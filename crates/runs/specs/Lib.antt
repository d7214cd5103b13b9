pub mod Resume
pub mod Runs
