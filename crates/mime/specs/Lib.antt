pub mod Mime
