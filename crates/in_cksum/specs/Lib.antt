pub mod Partial
pub mod Inside
