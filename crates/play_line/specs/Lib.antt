pub mod Faults
pub mod Bytes
pub mod Line
pub mod Shown
pub mod Time
