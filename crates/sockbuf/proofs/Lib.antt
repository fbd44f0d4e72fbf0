pub mod Laws
mod Measures
mod Fronts
mod Queues
mod Beside
mod Stores
