pub mod Cases
pub mod Inside
