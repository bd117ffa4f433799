pub mod Announcing
pub mod Answering
pub mod Changing
pub mod Maps
pub mod ReadyLaws
pub mod Ending
pub mod Looking
pub mod Numbers
pub mod Reading
pub mod Writing
pub mod Joined
pub mod Modules
mod Giving
mod Slots
mod Changes
mod Blocks
mod Told
