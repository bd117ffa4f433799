pub mod Frames
pub mod Stored
