mod Counting
mod Walk
mod Deliveries
