mod Over
mod Heads
mod Parts
mod Patches
mod Encoded
mod Lying
mod Addresses
pub mod Laws
