pub mod Steps
pub mod Ring
pub mod Entries
