-- Which socket receives a packet, and what fits into its queue.
pub mod Lookup
pub mod Fits
