pub mod RowLaws
pub mod ChangeLaws
pub mod RowsBuilt
pub mod NamedLaws
pub mod ChangedMaps
pub mod WithinLaws
