pub mod Part
pub mod Orders
pub mod Looks
pub mod Bus
pub mod Power
