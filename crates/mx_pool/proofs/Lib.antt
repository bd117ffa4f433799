pub mod StoredFrames
pub mod FreeList
pub mod Changes
pub mod FrameCounts
