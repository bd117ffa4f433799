pub mod RunTests
pub mod BlockTests
pub mod StoredWords
pub mod NeedSums
pub mod MapLaws
pub mod ShapeLaws
