pub mod Extension
pub mod OfEncoded
pub mod OfDecoded
