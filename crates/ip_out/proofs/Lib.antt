mod Counting
mod Later
mod Outputs
mod Sums
mod Firsts
mod Queues
mod Sends
mod Copies
mod Flat
mod Datagrams
mod Found
pub mod Laws
