pub mod Closings
pub mod CountLaws
pub mod Paces
pub mod RunEnds
pub mod RunTexts
pub mod Sinking
pub mod TraceTexts
mod TraceExamples
