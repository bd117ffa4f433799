pub mod Same
pub mod Free
