pub mod Lines
pub mod Machines
pub mod Steps
pub mod Boots
pub mod Strings
pub mod Drawings
pub mod Inside
