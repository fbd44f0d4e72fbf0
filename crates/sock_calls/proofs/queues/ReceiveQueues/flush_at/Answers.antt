use Rattle.std.proofs.Common.{◌<◌, List, [], length, ap, sym, subst, ◌∙◌, arith}
use Rattle.sockbuf.specs.SockBuf.{SockBufView, IsSockBuf, datagrams}
use Rattle.sock_calls.specs.Sockets.{queues_of}
use Rattle.sock_calls.proofs.Frames.{at_set, none_there, moves_to}
use Rattle.sock_calls.proofs.Places.{read_is, steps_inside, written}
use Rattle.sock_calls.proofs.queues.ReceiveQueues.flush_at.Goals as goal
use Rattle.sock_calls.proofs.queues.ReceiveQueues.flush_at.Goals.{After-deref_mut}

-- the index is below the number of queues
within : (c : After-deref_mut) → c.args.place < length c.deref_mut.result.now
within c = omega (arith, c.requires.place, c.self.invariant, ap length c.deref_mut.ensures.value)

pub flush-requires : goal.flush-requires
flush-requires c = record {
  ready = subst (IsSockBuf c.args.pool.now)
      (sym (read_is c.index-deref_mut-place.result (c.deref_mut.ensures.value ∙ c.self.view_is)
      (within (goal.at.flush-requires c).After-deref_mut))) (c.requires.each c.args.place);
}

pub returns-clause-takes : goal.returns-clause-takes
returns-clause-takes c =
    steps_inside c.self.inside.queues c.index-deref_mut-place.result [] [] c.deref_mut.ensures.value c.self.view_is
    (within (goal.at.returns-clause-takes c).After-deref_mut) c.requires.each c.requires.owned c.flush.ensures.ready
    (moves_to c.flush.ensures.moves (none_there c.flush.new.pool c.flush.new.self c.flush.ensures.ready
    c.flush.ensures.empty))

pub returns-clause-empty : goal.returns-clause-empty
returns-clause-empty c =
    ap (λ (bs : List SockBufView). queues_of c.flush.new.pool bs c.args.place)
    (written c.self.inside.queues c.deref_mut.result.now c.args.place c.flush.new.self c.deref_mut.ensures.value)
    ∙ ap (datagrams c.flush.new.pool) (at_set c.deref_mut.result.now c.args.place c.flush.new.self
    (within (goal.at.returns-clause-empty c).After-deref_mut))
    ∙ c.flush.ensures.empty
