pub mod StatusLaws
pub mod WindowLaws
pub mod RightLaws
pub mod ToldLaws
pub mod Examples
