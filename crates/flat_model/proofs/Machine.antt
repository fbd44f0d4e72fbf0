-- The machine: what each step keeps.
pub mod Keys
pub mod Numbers
pub mod Sockets
pub mod Counting
pub mod Values
pub mod Putting
pub mod Placed
pub mod KeptLists
pub mod Kept
pub mod KeptCalls
pub mod KeptSteps
pub mod Balance
pub mod Weaker
pub mod Isolated
pub mod OnePacket
pub mod Within
