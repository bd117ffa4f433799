pub mod Flights
pub mod Harts
pub mod Looks
pub mod Calls
pub mod Coherence
pub mod Conditions
