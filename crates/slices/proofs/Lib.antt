pub mod Cases
pub mod Numbers
pub mod Splice
pub mod Truths
pub mod Walks
