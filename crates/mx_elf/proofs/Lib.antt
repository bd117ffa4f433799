pub mod Places
pub mod Loading
pub mod Sound
pub mod Examples
pub mod Names
pub mod Several
