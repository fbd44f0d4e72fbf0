use Rattle.std.proofs.Common.{◌≡◌, List, ◌<◌, ◌∷◌, [], ◌++◌, suc, length, refl, ap, sym, subst, ◌∙◌, arith}
use Rattle.std.specs.Prelude.{slice_index_or, slice_set}
use Rattle.flat_model.specs.Sockets.Fits.{fits}
use Rattle.sockbuf.specs.SockBuf.{SockBufView, IsSockBuf, datagrams}
use Rattle.mbuf_chain.specs.Train.{queued_packets}
use Rattle.sockbuf.specs.Stored.{stored_datagram, stored_packet}
use Rattle.sock_calls.specs.Inside.Storing.{data_memory, data_start}
use Rattle.sock_calls.specs.Sockets.{from_three, queue_at, queues_of}
use Rattle.sock_calls.proofs.Frames.{at_set}
use Rattle.sock_calls.proofs.Places.{at_three, named_is, steps_inside, steps_three, written}
use Rattle.sock_calls.proofs.queues.ReceiveQueues.store_at.Goals as goal
use Rattle.sock_calls.proofs.queues.ReceiveQueues.store_at.Goals.{After-fits, After-index-deref_mut-place, then-is_large, else-is_large}

-- what the test of the queue says
tested : (c : After-fits) → c.fits.result
    ≡ fits c.args.limit (queues_of c.args.pool.now (from_three c.args.self.now) c.args.fd) (length c.args.bytes.now)
    (data_memory c.args.is_large)
tested c =
    let p = c.args.pool.now in
    let has = c.deref.ensures.0 in
    let within : c.place_of-place.result < length c.deref.result.now =
    omega (arith, c.place_of-place.ensures.within, c.self.invariant, ap length has) in
    let at = c.index-deref-place.is ∙ named_is c.index-deref-place.result c.args.fd (has ∙ c.self.view_is) within
    c.place_of-place.ensures.value in
    c.fits.ensures p (subst (IsSockBuf p) (sym at) (c.requires.each c.args.fd))
    ∙ ap (λ (v : SockBufView). fits c.args.limit (datagrams p v) (length c.args.bytes.now) c.data_memory-memory.result)
    at ∙ ap (fits c.args.limit (queues_of p (from_three c.args.self.now) c.args.fd) (length c.args.bytes.now))
    c.data_memory-memory.ensures

-- the queue that is written
within : (c : After-index-deref_mut-place) → c.place_of-place.result < length c.deref_mut.result.now
within c = omega (arith, c.place_of-place.ensures.within, c.self.invariant, ap length c.deref_mut.ensures.value)

here : (c : After-index-deref_mut-place)
    → slice_index_or c.deref_mut.result.now c.place_of-place.result c.index-deref_mut-place.result
    ≡ queue_at (from_three c.args.self.now) c.args.fd
here c =
    named_is c.index-deref_mut-place.result c.args.fd (c.deref_mut.ensures.value ∙ c.self.view_is) (within c)
    c.place_of-place.ensures.value

pub store-requires-clause-ready : goal.store-requires-clause-ready
store-requires-clause-ready c =
    subst (IsSockBuf c.args.pool.now)
    (sym (here (goal.at.store-requires-clause-ready c).After-index-deref_mut-place)) (c.requires.each c.args.fd)

pub store-requires-clause-fits : goal.store-requires-clause-fits
store-requires-clause-fits c =
    let at = goal.at.store-requires-clause-fits c in
    ap (λ (v : SockBufView). fits c.args.limit (datagrams c.args.pool.now v) (length c.args.bytes.now)
    (data_memory c.args.is_large))
    (here at.After-index-deref_mut-place) ∙ sym (tested at.After-fits) ∙ c.if-not-fits.false

pub returns-then-not-fits : goal.returns-then-not-fits
returns-then-not-fits c =
    record {
      over = sym (tested (goal.at.returns-then-not-fits c).After-fits) ∙ c.if-not-fits.true;
      cause = refl;
      pool = refl;
      queues = refl;
    }

pub returns : goal.returns
returns c =
    let p = c.args.pool.now in
    let q = c.store.new.pool in
    let bs = c.deref_mut.result.now in
    let i = c.place_of-place.result in
    let y = c.store.new.self in
    let o = c.store.ensures.cluster in
    let number = c.store.ensures.newest.0 in
    let start : c.if-is_large.start ≡ data_start c.args.is_large =
    elim c.if-is_large.branch [
      | then-is_large w ↦ w.start-is ∙ sym (ap data_start w.if-is_large.true)
      | else-is_large w ↦ w.start-is ∙ sym (ap data_start w.if-is_large.false)
    ] in
    let is = c.deref_mut.ensures.value in
    let at = goal.at.returns c in
    let lt = within at.After-index-deref_mut-place in
    let queue = here at.After-index-deref_mut-place in
    record {
      fits = sym (tested at.After-fits) ∙ c.if-not-fits.false;
      steps = steps_three c.args.fd c.place_of-place.ensures.value
          (steps_inside c.self.inside.queues c.index-deref_mut-place.result [] [] is c.self.view_is lt
          (λ k. c.requires.each (suc (suc (suc k)))) c.requires.owned c.store.ensures.ready c.store.ensures.moves);
      cluster = o;
      taken = c.store.ensures.taken;
      here = ap (λ (l : List SockBufView). datagrams q (queue_at (from_three l) c.args.fd))
          (written c.self.inside.queues bs i y is)
          ∙ ap (datagrams q) (at_three (slice_set bs i y) i c.args.fd c.place_of-place.ensures.value ∙ at_set bs i y lt)
          ∙ c.store.ensures.datagrams
          ∙ ap (λ (v : SockBufView). datagrams p v ++ stored_datagram c.args.sender c.args.bytes.now o ∷ []) queue;
      newest = (
        number,
        ap (λ (l : List SockBufView). queued_packets q (queue_at (from_three l) c.args.fd).train)
            (written c.self.inside.queues bs i y is)
            ∙ ap (λ (v : SockBufView). queued_packets q v.train)
            (at_three (slice_set bs i y) i c.args.fd c.place_of-place.ensures.value ∙ at_set bs i y lt)
            ∙ c.store.ensures.newest.1
            ∙ (λ j. queued_packets p (queue j).train
            ++ stored_packet number c.args.sender c.args.bytes.now (start j) o ∷ []),
      );
    }
