pub mod Sockets
pub mod Sends
pub mod Outgoing
pub mod Delivery
pub mod Questions
pub mod Inside
pub mod Whole
