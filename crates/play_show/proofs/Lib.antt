mod ShownLemmas
mod Waiting
pub mod Laws
