-- What only this crate reads.
pub mod Access
pub mod Cells
pub mod Readable
