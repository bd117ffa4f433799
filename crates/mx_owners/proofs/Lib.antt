pub mod FillLaws
pub mod PlaceLaws
pub mod CountLaws
pub mod GiveLaws
pub mod Ranges
