pub mod Examples
pub mod Grammar
pub mod Narrow
pub mod Places
pub mod Rows
pub mod Skips
pub mod Tests
pub mod Utf8
