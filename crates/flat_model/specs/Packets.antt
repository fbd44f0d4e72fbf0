-- Packets as bytes.
pub mod Checksum
pub mod Header
