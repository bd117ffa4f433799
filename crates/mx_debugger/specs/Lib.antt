pub mod Looking
pub mod Debugs
pub mod Plainly
pub mod Program
