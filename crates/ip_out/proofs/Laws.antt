-- The laws that crates above may cite.

-- The number of packets of a held train is its length; a train without chains has no packets.
pub use Rattle.ip_out.proofs.Queues.{packets_len, none_wait}
-- The packets of a chain with the layout and the bytes of a send are the flat machine's packets of that send.
pub use Rattle.ip_out.proofs.Flat.{sending_head, packets_sent}
-- A chain with packet header and the layout of a send can be output.
pub use Rattle.ip_out.proofs.Datagrams.{datagram_sent}
