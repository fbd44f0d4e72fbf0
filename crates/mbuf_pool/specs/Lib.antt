pub mod Store
pub mod Lending
pub mod Cells
pub mod Inside
