pub mod Laws
mod Matching
mod Cutting
mod Summing
mod Building
mod Reading
