pub mod Within
pub mod Presented
