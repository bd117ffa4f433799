pub mod Change
pub mod Tables
pub mod Rows
pub mod Names
