pub mod Programs
pub mod Slips
pub mod Trees
pub mod Runs
pub mod Histories
pub mod Sessions
pub mod Rows
pub mod Claims
