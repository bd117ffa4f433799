pub mod Lists
pub mod Store
pub mod Entries
pub mod Sound
pub mod Plan
pub mod Kept
pub mod Shape
pub mod Tally
