pub mod Stack
pub mod Boots
pub mod Runs
pub mod Wire
pub mod Questions
pub mod Inside
pub mod Isolation
