pub mod Snapshot
pub mod Taking
pub mod Extents
pub mod Parts
pub mod Goes
