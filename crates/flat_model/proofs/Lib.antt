mod Lists
mod Packets
mod Amounts
mod Fragments
mod Machine
mod Runs
pub mod Laws
