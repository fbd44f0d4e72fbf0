pub mod Limited
pub mod Parts
pub mod Received
pub mod Rounds
pub mod Runs
