pub mod Settles
mod Others
