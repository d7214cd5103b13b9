pub mod Bytes
pub mod Kept
