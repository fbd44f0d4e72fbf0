pub mod Amounts
pub mod Packets
pub mod Fragments
pub mod Sockets
pub mod Machine
pub mod Runs
pub mod Scripts
