pub mod Lists
pub mod Order
pub mod Apart
pub mod Indexing
