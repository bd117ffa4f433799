pub mod Sums
pub mod LineRuns
