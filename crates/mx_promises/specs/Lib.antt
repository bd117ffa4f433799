pub mod Booted
