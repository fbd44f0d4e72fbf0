pub mod Laws
mod Searching
mod Passed
mod Exactly
mod Pigeons
mod Circle
mod Lifted
mod Descriptors
mod Places
mod Keeping
mod Steps
mod Unconnected
mod Unlimited
mod Finding
mod ByLink
mod Opened
mod Moved
