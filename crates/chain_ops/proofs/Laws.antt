-- The laws for crates above: owners, bytes and weights of chains after each operation.
pub mod Lists
pub mod Makes
pub mod Rooms
pub mod Steps
pub mod Strings
pub mod Stored
pub mod Joins
pub mod Weights
