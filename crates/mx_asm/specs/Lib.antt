pub mod Places
pub mod Labels
pub mod LabelViews
pub mod Instructions
pub mod Faults
pub mod Denoted
pub mod Ready
