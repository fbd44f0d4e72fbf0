use Rattle.std.proofs.Common.{◌≡◌, ℕ, List, inl, inr, ap, ◌∙◌, arith}
use Rattle.std.proofs.lemmas.Bool.{cases_lt}
use Rattle.std.proofs.lemmas.List.{get_or_past}
use Rattle.sockbuf.specs.SockBuf.{SockBufView, no_datagrams}
use Rattle.sock_calls.specs.Sockets.{queue_at}
use Rattle.sock_calls.proofs.queues.ReceiveQueues.new.Goals as goal

empty : (c : goal.After-from_array_in) (k : ℕ) → queue_at c.from_fn-queues.result k ≡ no_datagrams
empty c k = elim (cases_lt k 64) [
  | inl lt ↦ (c.from_fn-queues.ensures.items.at k no_datagrams lt).2.met
  | inr ge ↦ get_or_past c.from_fn-queues.result k no_datagrams (omega (arith, c.from_fn-queues.ensures.items.long, ge))
]

pub returns-clause-empty : goal.returns-clause-empty
returns-clause-empty c = λ k. ap (λ (bs : List SockBufView). queue_at bs k) c.from_array_in.ensures.items ∙ empty c k
