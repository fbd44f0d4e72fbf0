pub mod Over
pub mod Cells
pub mod Lending
pub mod Inside
