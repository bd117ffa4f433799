pub mod Counting
pub mod Ends
pub mod Running
pub mod Rows
pub mod Runs
pub mod Tracing
