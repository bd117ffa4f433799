pub mod Spans
pub mod Coherence
