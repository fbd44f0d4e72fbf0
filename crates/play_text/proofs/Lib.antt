mod PieceLemmas
mod PacketLemmas
mod StringLemmas
mod ColourLemmas
mod FrameLemmas
mod ByteLemmas
pub mod Laws
