pub mod Touched
pub mod Rest
pub mod Views
pub mod Pairs
