pub mod Program
pub mod Labels
pub mod Image
pub mod Layout
pub mod Lawful
