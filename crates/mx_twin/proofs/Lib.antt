pub mod Registers
pub mod SeenRuns
pub mod GateLists
pub mod PairLaws
pub mod TurnRows
pub mod Going
pub mod Watching
mod Examples
