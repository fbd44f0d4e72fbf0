-- What only this crate reads.
pub mod Destination
pub mod Putting
pub mod Delivering
pub mod Parts
pub mod Asked
pub mod Storing
