pub mod Alike
pub mod Asked
pub mod Fixed
pub mod OverFiles
