pub mod Window
pub mod Pieces
pub mod Documents
pub mod Told
