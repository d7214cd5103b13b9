pub mod Blocks
pub mod Containers
