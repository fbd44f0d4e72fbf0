use Rattle.std.proofs.Common.{◌<◌, List, [], length, ap, sym, subst, ◌∙◌, arith}
use Rattle.sockbuf.specs.SockBuf.{SockBufView, IsSockBuf, datagrams}
use Rattle.sock_calls.specs.Sockets.{queue_at}
use Rattle.sock_calls.proofs.Frames.{at_set}
use Rattle.sock_calls.proofs.Places.{read_is, steps_inside, written}
use Rattle.sock_calls.proofs.Received.{took_as}
use Rattle.sock_calls.proofs.queues.ReceiveQueues.take_at.Goals as goal
use Rattle.sock_calls.proofs.queues.ReceiveQueues.take_at.Goals.{After-deref_mut}

-- the index is below the number of queues
within : (c : After-deref_mut) → c.args.place < length c.deref_mut.result.now
within c = omega (arith, c.requires.place, c.self.invariant, ap length c.deref_mut.ensures.value)

pub take_oldest-requires : goal.take_oldest-requires
take_oldest-requires c = record {
  ready = subst (IsSockBuf c.args.pool.now)
      (sym (read_is c.index-deref_mut-place.result (c.deref_mut.ensures.value ∙ c.self.view_is)
      (within (goal.at.take_oldest-requires c).After-deref_mut))) (c.requires.each c.args.place);
}

pub returns-clause-takes : goal.returns-clause-takes
returns-clause-takes c =
    steps_inside c.self.inside.queues c.index-deref_mut-place.result [] [] c.deref_mut.ensures.value c.self.view_is
    (within (goal.at.returns-clause-takes c).After-deref_mut) c.requires.each c.requires.owned
    c.take_oldest.ensures.ready c.take_oldest.ensures.moves

pub returns-clause-taken : goal.returns-clause-taken
returns-clause-taken c =
    let is = c.deref_mut.ensures.value in
    let lt = within (goal.at.returns-clause-taken c).After-deref_mut in
    let bs = c.deref_mut.result.now in
    let y = c.take_oldest.new.queue in
    took_as (length c.args.buffer.now) c.take_oldest.result c.take_oldest.new.buffer
    (ap (datagrams c.args.pool.now) (sym (read_is c.index-deref_mut-place.result (is ∙ c.self.view_is) lt)))
    (ap (datagrams c.take_oldest.new.pool)
    (ap (λ (l : List SockBufView). queue_at l c.args.place) (written c.self.inside.queues bs c.args.place y is)
    ∙ at_set bs c.args.place y lt))
    c.take_oldest.ensures.taken
