-- What only this crate uses.
pub mod Walks
pub mod Known
pub mod Weighs
pub mod Steps
pub mod Place
pub mod Queue
pub mod Index
