-- What only this crate reads.
pub mod FreeList
pub mod Link
pub mod AllOut
pub mod Fields
