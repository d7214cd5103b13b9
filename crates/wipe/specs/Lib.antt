pub mod Scrub
