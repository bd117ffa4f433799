pub mod HighHalf
pub mod TurnLaws
pub mod QuickLaws
