pub mod Scrubs
