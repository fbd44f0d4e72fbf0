-- Which buffers an operation takes: weights, layouts and needs.
pub mod Choice
pub mod Weight
pub mod Layout
