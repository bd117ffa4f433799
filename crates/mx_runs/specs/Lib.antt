pub mod Refusals
pub mod ForeignRuns
pub mod TwinRuns
pub mod GateCalls
pub mod FlatStates
pub mod Denials
pub mod Borders
