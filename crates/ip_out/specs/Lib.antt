pub mod Bytes
pub mod Headings
pub mod Packets
pub mod Queues
pub mod Ways
pub mod Inside
pub mod Questions
pub mod Headed
