use Rattle.std.proofs.Common.{◌≡◌, ◌<◌, ℕ, [], length}
use Rattle.mbuf_chain.specs.Owners.{IsOwned, Moves}
use Rattle.sockbuf.specs.SockBuf.{IsSockBuf}
use Rattle.sock_calls.specs.Sockets.{queue_at, queues_of, queued_chains}
use Rattle.sock_calls.proofs.ending.flush_all.Given as goal

abbrev pub invariant-queues : goal.invariant-queues
invariant-queues l = record {
  each : (k : ℕ) → IsSockBuf l.pool (queue_at l.queues k);
  owned : IsOwned l.pool (queued_chains l.pool l.queues);
  len : length l.queues ≡ length l.fn.queues;
  empty : (k : ℕ) → k < l.place → queues_of l.pool l.queues k ≡ [];
  moves : Moves l.fn.pool (queued_chains l.fn.pool l.fn.queues) l.pool (queued_chains l.pool l.queues);
}
