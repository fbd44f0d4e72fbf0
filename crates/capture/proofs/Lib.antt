mod Unique
mod Answered
mod Headers
mod Framed
pub mod Heads
mod Options
mod Spelled
mod Filling
mod Opening
mod Placed
mod Loaded
mod Sections
mod Stepping
