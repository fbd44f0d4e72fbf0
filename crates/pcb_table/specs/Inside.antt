-- What only this crate reads.
pub mod Search
pub mod Changed
pub mod Fields
