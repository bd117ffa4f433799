pub mod ResumeLaws
pub mod SmallLaws
