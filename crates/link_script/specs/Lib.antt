pub mod Says
pub mod Boots
pub mod Options
pub mod Program
