mod Lists
mod Joins
mod Splits
mod Stored
mod Filling
mod Needed
mod Sent
mod Trims
mod Writes
pub mod Laws
