pub mod BackExamples
pub mod CutLaws
mod Examples
pub mod FrameLaws
pub mod LineLaws
pub mod ObjectExamples
pub mod StreamLaws
