pub mod Live
pub mod Sealed
pub mod SealedRuns
pub mod Marks
pub mod Lines
pub mod AlikeWords
pub mod Stays
