pub mod Asks
pub mod Opens
pub mod Calls
