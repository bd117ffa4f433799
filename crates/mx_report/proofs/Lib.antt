pub mod RunTexts
pub mod MapLaws
pub mod ItemLaws
pub mod RangeTexts
pub mod Views
pub mod CountsLine
pub mod Examples
