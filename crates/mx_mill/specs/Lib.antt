pub mod Building
pub mod Draws
pub mod Lines
pub mod Mill
pub mod Plan
pub mod Table
pub mod Words
