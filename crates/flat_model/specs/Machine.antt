-- The reference machine: its state, and each step.
pub mod Count
pub mod Event
pub mod State
pub mod Ledger
pub mod Calls
pub mod Sending
pub mod Send
pub mod Arrival
pub mod Puts
pub mod Step
pub mod Fate
pub mod Replies
