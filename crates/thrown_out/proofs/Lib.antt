pub mod Earlys
pub mod Slips
pub mod ThrownOut
