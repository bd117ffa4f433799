pub mod Turns
pub mod Told
pub mod Twins
pub mod Lines
pub mod Runs
