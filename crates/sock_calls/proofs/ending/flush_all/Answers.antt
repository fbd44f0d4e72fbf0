use Rattle.std.proofs.Common.{◌≡◌, ◌<◌, ℕ, List, [], length, subst, arith}
use Rattle.mbuf_chain.specs.Owners.{Moves}
use Rattle.sock_calls.specs.Sockets.{queued_chains, queues_of}
use Rattle.sock_calls.proofs.Frames.{all_gone, all_empty}
use Rattle.sock_calls.proofs.ending.flush_all.Goals as goal
use Rattle.sock_calls.proofs.ending.flush_all.Goals.{After-queues}

flushed : (c : After-queues) (k : ℕ) → k < length c.queues.queues → queues_of c.queues.pool c.queues.queues k ≡ []
flushed c k lt =
    c.queues.invariant.empty k
    (omega (arith, lt, c.queues-test.false, c.queues.invariant.len, c.len-all.ensures.value))

pub returns-clause-moves : goal.returns-clause-moves
returns-clause-moves c =
    subst (λ (xs : List ℕ). Moves c.args.pool.now (queued_chains c.args.pool.now c.args.queues.now) c.queues.pool xs)
    (all_gone c.queues.pool c.queues.queues c.queues.invariant.each
    (flushed (goal.at.returns-clause-moves c).After-queues))
    c.queues.invariant.moves

pub returns-clause-empty : goal.returns-clause-empty
returns-clause-empty c = all_empty c.queues.pool c.queues.queues c.queues.invariant.each
    (flushed (goal.at.returns-clause-empty c).After-queues)
