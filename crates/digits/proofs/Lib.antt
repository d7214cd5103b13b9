pub mod Texts
pub mod Writes
