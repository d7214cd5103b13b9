pub mod Parse
pub mod Plain
