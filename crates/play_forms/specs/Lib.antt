pub mod Table
pub mod Near
pub mod Advice
pub mod Inside
