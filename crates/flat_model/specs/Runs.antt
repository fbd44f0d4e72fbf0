-- Runs of the machine, and the laws about them.
pub mod Run
pub mod Laws
pub mod Consistent
pub mod Isolation
pub mod Clock
