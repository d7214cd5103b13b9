pub mod Blanks
pub mod Cutting
pub mod Highs
