pub mod Examples
pub mod LineLaws
pub mod DidLaws
mod DidExamples
