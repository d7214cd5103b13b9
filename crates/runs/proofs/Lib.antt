pub mod Bridge
pub mod Drive
pub mod Theorems
