use Rattle.std.proofs.Common.{◌+◌, ◌≤◌, ◌∷◌, ℕ, List, length, true, ap, sym, subst, arith}
use Rattle.mbuf_chain.specs.Chain.{ChainView, held_mbufs}
use Rattle.mbuf_chain.proofs.Laws.Owners.{live_first}
use Rattle.ledger.proofs.Laws.{enough_mbufs}
use Rattle.sock_calls.specs.Sockets.{SocksFit, from_three}
use Rattle.sock_calls.specs.Inside.Parts.{socks_of}
use Rattle.sock_calls.proofs.Delivered.{IsTested, Tested, tested}
use Rattle.sock_calls.proofs.Copies.{CopyReady, lacking_offer, copy_ready, copy_offer}
use Rattle.sock_calls.proofs.parts.Parts.deliver_copy.Goals as goal
use Rattle.sock_calls.proofs.parts.Parts.deliver_copy.Goals.{After-reserve, After-copy_whole}

pub returns-then-not-reserve-clause-offered : goal.returns-then-not-reserve-clause-offered
returns-then-not-reserve-clause-offered g c =
    lacking_offer c.args.fd c.args.datagram.now.sender
    (record { fit = c.requires.fit; moves = c.reserve.ensures.moves; reserves = c.if-not-reserve.ensures.reserves })
    c.mbufs-mbufs.ensures c.count_ended.ensures

-- ---- the pool was tested
after : (g : _) (c : After-reserve g)
    → Tested c.args.pool.now c.args.datagram.now.chain (g.R.Reclaim.owned c.args.pool.now c.args.waiting.now)
    (socks_of c.args.self.now) c.reserve.new.pool (g.R.Reclaim.owned c.reserve.new.pool c.reserve.new.waiting)
after g c = tested c.requires.fit c.reserve.ensures.moves

pub copy_whole-requires-clause-live : goal.copy_whole-requires-clause-live
copy_whole-requires-clause-live g c =
    live_first c.reserve.new.pool c.args.datagram.now.chain _
    (after g (goal.at.copy_whole-requires-clause-live g c).After-reserve).fit.owned

pub copy_whole-requires-clause-free : goal.copy_whole-requires-clause-free
copy_whole-requires-clause-free g c =
    let q = c.reserve.new.pool in
    let x = after g (goal.at.copy_whole-requires-clause-free g c).After-reserve in
    let free : held_mbufs q + c.mbufs-mbufs.result ≤ q.mbufs =
    enough_mbufs q c.mbufs-mbufs.result 0 (sym c.if-not-reserve.ensures.answer)
    (omega (
      arith,
      c.mbufs-mbufs.ensures,
      c.laws.ensures.some c.args.datagram.now.chain
          (live_first q c.args.datagram.now.chain _ x.fit.owned),
      ap (λ (v : ChainView). length v.entries) x.chain,
    )) in
    omega (arith, free, c.mbufs-mbufs.ensures, ap (λ (v : ChainView). length v.entries) x.chain)

-- ---- a copy was made
copied : (g : _) (c : After-copy_whole g) → CopyReady c.reserve.new.pool c.copy_whole.new.pool
    (socks_of c.args.self.now) (g.R.Reclaim.owned c.reserve.new.pool c.reserve.new.waiting) c.copy_whole.result
copied g c = copy_ready c.requires.fit c.reserve.ensures.moves c.copy_whole.ensures.moves

pub append-requires-clause-fit : goal.append-requires-clause-fit
append-requires-clause-fit g c =
    let k = copied g (goal.at.append-requires-clause-fit g c).After-copy_whole in
    subst (λ (zs : List ℕ). SocksFit c.copy_whole.new.pool (socks_of c.args.self.now) (c.copy_whole.result ∷ zs))
    (sym (g.met.R.Reclaim.owned_same c.reserve.new.pool c.copy_whole.new.pool c.reserve.new.waiting k.same)) k.fit

pub append-requires-clause-waits : goal.append-requires-clause-waits
append-requires-clause-waits g c =
    g.met.R.Reclaim.ready_same c.reserve.new.pool c.copy_whole.new.pool c.reserve.new.waiting
    (copied g (goal.at.append-requires-clause-waits g c).After-copy_whole).same c.reserve.ensures.ready

pub returns-clause-offered : goal.returns-clause-offered
returns-clause-offered g c =
    let p = c.args.pool.now in
    let q = c.reserve.new.pool in
    let w = c.args.waiting.now in
    let v = c.reserve.new.waiting in
    let i : IsTested p c.args.self.now.pcbs (from_three c.args.self.now.queues) (g.R.Waiting.unfinished p w)
    (g.R.Reclaim.owned p w) c.args.counters.now c.args.datagram.now.chain c.mbufs-mbufs.result true q
    (g.R.Waiting.unfinished q v) (g.R.Reclaim.owned q v) c.reserve.new.counters =
    record { fit = c.requires.fit; moves = c.reserve.ensures.moves; reserves = c.if-not-reserve.ensures.reserves } in
    let same = (copied g (goal.at.returns-clause-offered g c).After-copy_whole).same in
    copy_offer c.args.fd c.copy_whole.result c.args.datagram.now.sender i c.mbufs-mbufs.ensures
    c.copy_whole.ensures.moves c.copy_whole.ensures.item
    (g.met.R.Waiting.unfinished_same q c.copy_whole.new.pool v same)
    (g.met.R.Reclaim.owned_same q c.copy_whole.new.pool v same) c.append.ensures.appended
