use Rattle.std.proofs.Common.{◌++◌, [], ◌∷◌, length, List, ℕ, Bool, cond, sym, ap, ◌∙◌, arith}
use Rattle.flat_model.specs.Sockets.Fits.{fits}
use Rattle.flat_model.specs.Machine.State.{Datagram}
use Rattle.mbuf_chain.proofs.Laws.Owners.{moves_trans}
use Rattle.sockbuf.specs.SockBuf.{datagrams, packet_from}
use Rattle.sockbuf.proofs.Stores.{InHand, in_hand}
use Rattle.sockbuf.proofs.buffer.SockBuf.store.Goals as goal
use Rattle.sockbuf.proofs.buffer.SockBuf.store.Goals.{After-one_mbuf-chain, then-is_large, else-is_large}

-- the new chain, before it's appended
hand : (c : After-one_mbuf-chain) → InHand c.args.pool.now c.args.self.now c.args.bytes.now c.args.start
    c.one_mbuf-chain.ensures.0 c.one_mbuf-chain.new.pool c.one_mbuf-chain.result
hand c =
    in_hand c.args.bytes.now c.args.start c.one_mbuf-chain.ensures.0 c.requires.ready c.one_mbuf-chain.ensures.2

pub append_fitting-requires-clause-can : goal.append_fitting-requires-clause-can
append_fitting-requires-clause-can c =
    let h = hand (goal.at.append_fitting-requires-clause-can c).After-one_mbuf-chain in
    record {
      ready = h.ready;
      live = h.live;
      apart = h.apart;
      len = h.len;
      fits = ap (λ (m : ℕ). fits c.args.limit (datagrams c.one_mbuf-chain.new.pool c.args.self.now)
          (length c.args.bytes.now) m) (sym (h.memory c.args.is_large c.one_mbuf-chain.ensures.1))
          ∙ ap (λ (ds : List Datagram). fits c.args.limit ds (length c.args.bytes.now)
          (cond c.args.is_large 2176 128)) h.same ∙ c.requires.fits;
      free = omega (arith, h.held, h.mbufs, c.requires.free);
    }

pub append_fitting-requires-clause-memory : goal.append_fitting-requires-clause-memory
append_fitting-requires-clause-memory c =
    let is =
    (hand (goal.at.append_fitting-requires-clause-memory c).After-one_mbuf-chain).memory c.args.is_large
    c.one_mbuf-chain.ensures.1 in
    elim c.if-is_large.branch [
      | then-is_large w ↦ w.memory-is ∙ sym (ap (λ (b : Bool). cond {A = ℕ} b 2176 128) w.if-is_large.true) ∙ is
      | else-is_large w ↦ w.memory-is ∙ sym (ap (λ (b : Bool). cond {A = ℕ} b 2176 128) w.if-is_large.false) ∙ is
    ]

pub returns : goal.returns
returns c =
    let h = hand (goal.at.returns c).After-one_mbuf-chain in
    record {
      cluster = c.one_mbuf-chain.ensures.0;
      taken = c.one_mbuf-chain.ensures.1;
      datagrams = c.append_fitting.ensures.datagrams ∙ (λ i. h.same i ++ h.is c.args.sender i ∷ []);
      newest = (
        c.append_fitting.ensures.newest.0,
        c.append_fitting.ensures.newest.1
            ∙ (λ i. h.packets i
            ++ packet_from c.append_fitting.ensures.newest.0 c.args.sender (h.entries i) ∷ []),
      );
      ready = c.append_fitting.ensures.ready;
      moves = moves_trans h.moves c.append_fitting.ensures.moves;
    }
