pub mod Bus
pub mod Exec
pub mod Memo
pub use Rattle.mx_model.specs.Effect
