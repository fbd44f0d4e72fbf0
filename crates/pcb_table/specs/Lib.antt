pub mod Table
pub mod Found
pub mod Apart
pub mod Inside
