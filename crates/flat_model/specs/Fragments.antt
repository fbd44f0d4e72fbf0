-- How a datagram is fragmented and reassembled.
pub mod Cuts
pub mod Overlay
pub mod Whole
