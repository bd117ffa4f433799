pub mod Documents
pub mod Ranges
