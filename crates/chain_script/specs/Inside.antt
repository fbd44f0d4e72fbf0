-- Definitions that only this crate uses.
pub mod Calls
pub mod Needs
pub mod Replies
pub mod Slots
