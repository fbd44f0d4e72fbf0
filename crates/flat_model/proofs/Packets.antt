-- Packets as bytes.
pub mod Folds
pub mod Sizes
