pub mod HeapState
pub mod Places
