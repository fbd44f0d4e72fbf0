use Rattle.std.proofs.Common.{◌≡◌, ◌<◌, ◌^◌, ℕ}
use Rattle.mbuf_chain.specs.Chain.{PoolView}
use Rattle.sockbuf.specs.SockBuf.{IsSockBuf}
use Rattle.sock_calls.specs.Questions.{set_below}
use Rattle.sock_calls.specs.Inside.Asked.{waits_at}
use Rattle.sock_calls.specs.Sockets.{queue_at}
use Rattle.sock_calls.proofs.questions.readable.Given as goal

abbrev pub invariant-places : goal.invariant-places
invariant-places l = record {
  set : (p : PoolView) → ((k : ℕ) → IsSockBuf p (queue_at l.queues k))
      → l.set ≡ set_below (waits_at p l.queues) l.place;
  small : l.set < 2 ^ l.place;
}
