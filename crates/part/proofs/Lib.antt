pub mod General
pub mod Stays
