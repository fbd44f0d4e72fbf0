-- All the lemmas that crates above may cite.

-- ---- the packets that a machine gives to the link have one of its addresses as their source
pub use Rattle.flat_ether.proofs.Sources.{IsSourced, boot_sourced, goes_on_sourced, given_own}
