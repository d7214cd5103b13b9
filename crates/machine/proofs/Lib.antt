pub mod Acks
pub mod Waits
pub mod Switches
