pub mod CallLaws
pub mod Lookup
pub mod SinkLaws
pub mod Talks
pub mod Text
pub mod Puts
pub mod Names
