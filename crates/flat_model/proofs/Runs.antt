-- Runs of the machine.
pub mod Ranges
pub mod Runs
pub mod WorkedRun
pub mod Clock
