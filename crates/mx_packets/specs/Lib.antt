pub mod Packets
pub mod Frames
pub mod Streams
pub mod Requests
pub mod Lines
