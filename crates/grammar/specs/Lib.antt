pub mod Blocks
pub mod Records
pub mod Messages
