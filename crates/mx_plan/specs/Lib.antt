pub mod Judged
pub mod Manifest
