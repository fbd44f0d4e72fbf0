-- The laws that crates above may cite.

-- A new queue fits every pool.
pub use Rattle.sockbuf.proofs.Beside.{new_ready}
-- A step on other chains leaves a queue the same.
pub use Rattle.sockbuf.proofs.Beside.{chains_same, datagrams_same, ready_same}
-- A new chain isn't in the queue.
pub use Rattle.sockbuf.proofs.Beside.{apart_ready, ready_made}
-- The state after a datagram is refused, whatever the reason.
pub use Rattle.sockbuf.proofs.Beside.{refused}
