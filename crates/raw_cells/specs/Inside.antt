-- What only this crate reads.
pub mod Memory
pub mod MemoryLends
pub mod Block
pub mod BlockLends
pub mod Layout
