pub mod Plain
pub mod Calls
pub mod Turn
pub mod Forgetting
