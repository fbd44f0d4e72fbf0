mod FreeList
mod Blocks
mod Shown
mod Reading
mod Changes
mod Steps
mod Links
mod Effects
mod Booting
pub mod Laws
mod Sums
