-- What only this crate reads.
pub mod Fields
pub mod Arrivals
pub mod Sending
pub mod Hosts
pub mod Transmit
