pub mod Fields
pub mod Nears
pub mod Outs
pub mod Goes
pub mod Theorems
