pub mod Block
pub mod Container
pub mod Image
pub mod Lengths
pub mod Numbers
pub mod Payload
pub mod Record
pub mod Words
