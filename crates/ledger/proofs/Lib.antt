pub mod Laws
mod Weights
mod Accounts
mod Picked
mod Moved
mod PoolTests
mod Shown
