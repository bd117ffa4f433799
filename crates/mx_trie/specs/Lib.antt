-- entries and runs
pub mod Digits
pub mod Codes
pub mod Decoded
pub mod Leaf
pub mod Filled
-- stored words, and how they stand for a map
pub mod Walk
pub mod Shown
pub mod Found
pub mod Read
pub mod Views
-- frames and owners
pub mod Heap
pub mod Owned
pub mod Spills
pub mod Taken
-- a change
pub mod Ranges
pub mod Laying
pub mod Changed
pub mod Steps
pub mod OnWay
pub mod After
-- the trait
pub mod Standing
pub mod Built
pub mod Shape
