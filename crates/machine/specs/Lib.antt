pub mod Ack
pub mod Ask
pub mod Wait
pub mod Switch
