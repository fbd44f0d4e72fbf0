use Rattle.std.proofs.Common.{◌≡◌, ◌<◌, List, ◌∷◌, [], ◌++◌, suc, length, ap, sym, subst, ◌∙◌, arith}
use Rattle.std.specs.Prelude.{slice_index_or, slice_set}
use Rattle.flat_model.specs.Sockets.Fits.{fits, memory_of}
use Rattle.mbuf_chain.specs.Owners.{times_among}
use Rattle.mbuf_chain.proofs.Laws.Owners.{live_first, apart_first}
use Rattle.ledger.specs.Accounts.{weight_at}
use Rattle.sockbuf.specs.SockBuf.{SockBufView, IsSockBuf, chains_of, datagrams, datagram_from}
use Rattle.sock_calls.specs.Sockets.{from_three, queue_at, queues_of}
use Rattle.sock_calls.proofs.Frames.{at_set, times_at}
use Rattle.sock_calls.proofs.Places.{at_three, named_is, steps_inside, steps_three, written}
use Rattle.sock_calls.proofs.queues.ReceiveQueues.append_at.Goals as goal
use Rattle.sock_calls.proofs.queues.ReceiveQueues.append_at.Goals.{After-index-deref_mut-place_of}

-- the index is below the number of queues, and the queue there is the descriptor's
within : (c : After-index-deref_mut-place_of) → c.place_of.result < length c.deref_mut.result.now
within c = omega (arith, c.place_of.ensures.within, c.self.invariant, ap length c.deref_mut.ensures.value)

here : (c : After-index-deref_mut-place_of)
    → slice_index_or c.deref_mut.result.now c.place_of.result c.index-deref_mut-place_of.result
    ≡ queue_at (from_three c.args.self.now) c.args.fd
here c =
    named_is c.index-deref_mut-place_of.result c.args.fd (c.deref_mut.ensures.value ∙ c.self.view_is) (within c)
    c.place_of.ensures.value

pub append_fitting-requires-clause-can : goal.append_fitting-requires-clause-can
append_fitting-requires-clause-can c =
    let p = c.args.pool.now in
    let at = here (goal.at.append_fitting-requires-clause-can c).After-index-deref_mut-place_of in
    record {
      ready = subst (IsSockBuf p) (sym at) (c.requires.each c.args.fd);
      live = live_first p c.args.datagram.chain _ c.requires.owned;
      apart =
          apart_first p c.args.datagram.chain _ (λ k. omega (
            arith,
            c.requires.owned k,
            times_at p (from_three c.args.self.now) c.args.fd k,
            ap (λ (v : SockBufView). times_among k (chains_of p v)) at,
          ));
      len = c.requires.len;
      fits = ap (λ (v : SockBufView). fits c.args.limit (datagrams p v) c.args.len
          (memory_of (weight_at p c.args.datagram.chain))) at
          ∙ ap (fits c.args.limit (queues_of p (from_three c.args.self.now) c.args.fd) c.args.len)
          (sym c.requires.memory) ∙ c.requires.fits;
      free = c.requires.free;
    }

pub returns-clause-steps : goal.returns-clause-steps
returns-clause-steps c =
    let lt = within (goal.at.returns-clause-steps c).After-index-deref_mut-place_of in
    steps_three c.args.fd c.place_of.ensures.value
    (steps_inside c.self.inside.queues c.index-deref_mut-place_of.result (c.args.datagram.chain ∷ []) []
    c.deref_mut.ensures.value c.self.view_is lt (λ k. c.requires.each (suc (suc (suc k)))) c.requires.owned
    c.append_fitting.ensures.ready c.append_fitting.ensures.moves)

pub returns-clause-here : goal.returns-clause-here
returns-clause-here c =
    let at = (goal.at.returns-clause-here c).After-index-deref_mut-place_of in
    let q = c.append_fitting.new.pool in
    let bs = c.deref_mut.result.now in
    let i = c.place_of.result in
    let y = c.append_fitting.new.self in
    ap (λ (l : List SockBufView). datagrams q (queue_at (from_three l) c.args.fd))
    (written c.self.inside.queues bs i y c.deref_mut.ensures.value)
    ∙ ap (datagrams q) (at_three (slice_set bs i y) i c.args.fd c.place_of.ensures.value ∙ at_set bs i y (within at))
    ∙ c.append_fitting.ensures.datagrams
    ∙ ap (λ (v : SockBufView). datagrams c.args.pool.now v
    ++ datagram_from c.args.datagram.sender c.args.pool.now c.args.datagram.chain ∷ []) (here at)
