pub mod SockBuf
pub mod Questions
pub mod Stored
