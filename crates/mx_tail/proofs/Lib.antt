pub mod TailLaws
pub mod PassLaws
