pub mod Grammar
pub mod Narrow
pub mod Rest
pub mod Skips
pub mod Utf8
