pub mod Answers
pub mod Heaps
pub mod Parts
pub mod Looks
pub mod Rights
pub mod Served
pub mod Services
pub mod Told
