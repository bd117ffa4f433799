pub mod Field
pub mod Header
pub mod Segment
pub mod Image
pub mod Symbol
pub mod Known
