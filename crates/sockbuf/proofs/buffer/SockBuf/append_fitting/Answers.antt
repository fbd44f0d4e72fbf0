use Rattle.std.proofs.Common.{◌+◌, ℕ, List, length, ap, sym, subst, ◌∙◌, arith}
use Rattle.std.specs.List.{insert}
use Rattle.flat_model.proofs.Laws.{fits_most}
use Rattle.ledger.specs.Accounts.{weight_at}
use Rattle.mbuf_chain.specs.Chain.{ChainView, chain_of, string}
use Rattle.mbuf_chain.specs.Train.{QueuedPacket, queued_packets}
use Rattle.mbuf_chain.proofs.Laws.Owners.{live_adds, kept_with}
use Rattle.mbuf_chain.proofs.Laws.Steps.{apart, live_beside, count_new}
use Rattle.flat_model.specs.Sockets.Fits.{memory_of}
use Rattle.sockbuf.specs.SockBuf.{Appended, CanAppend, SockBufView, datagrams}
use Rattle.sockbuf.proofs.Fronts.{Addressed, with_bytes, addressed}
use Rattle.sockbuf.proofs.Queues.{appended, held_beside, apart_beside}
use Rattle.sockbuf.proofs.buffer.SockBuf.append_fitting.Goals as goal
use Rattle.sockbuf.proofs.buffer.SockBuf.append_fitting.Goals.{After-len-end}

pub first-first-requires : goal.first-first-requires
first-first-requires c = live_adds c.in-Ok.ensures.ok

pub link_counted-requires-clause-back : goal.link_counted-requires-clause-back
link_counted-requires-clause-back c = live_beside _ _ _ _ c.in-Ok.ensures.ok _ c.requires.can.live

pub link_counted-requires-clause-last : goal.link_counted-requires-clause-last
link_counted-requires-clause-last c =
    omega (arith, c.first-first.ensures.index, count_new _ _ _ _ _ c.in-Ok.ensures.ok)

pub link_counted-requires-clause-len : goal.link_counted-requires-clause-len
link_counted-requires-clause-len c =
    let a = c.in-Ok.ensures.ok in
    c.requires.can.len ∙ ap (λ (v : ChainView). length (string v))
    (sym (kept_with _ _ _ _ _ a.pool (apart _ _ _ _ a _ c.requires.can.live)))

-- ---- the queue before, in the form of its fields, and the chain after the mbuf with the address
was : (c : After-len-end) → CanAppend c.args._limit c.args.pool.now
    (record { train = c.self.inside.train; cc = c.self.inside.cc; mbcnt = c.self.inside.mbcnt }) c.args.chain c.args.len
was c =
    subst (λ (v : SockBufView). CanAppend c.args._limit c.args.pool.now v c.args.chain c.args.len) (sym c.self.view_is)
    c.requires.can

made : (c : After-len-end)
    → Addressed c.args.pool.now c.args.chain c.args.sender c.link_counted.new.self c.in-Ok.whole
made c =
    addressed _ _ _ (with_bytes c.args.sender _ c.in-Ok.ensures.ok c.sockaddr_bytes.ensures) c.requires.can.live
    c.link_counted.ensures.change

pub insert-requires-clause-held : goal.insert-requires-clause-held
insert-requires-clause-held c =
    let at = (goal.at.insert-requires-clause-held c).After-len-end in
    held_beside c.self.inside.train (made at).moves (was at).apart (was at).ready.held

pub insert-requires-clause-headed : goal.insert-requires-clause-headed
insert-requires-clause-headed c = (made (goal.at.insert-requires-clause-headed c).After-len-end).headed

pub insert-requires-clause-apart : goal.insert-requires-clause-apart
insert-requires-clause-apart c =
    let at = (goal.at.insert-requires-clause-apart c).After-len-end in
    apart_beside c.self.inside.train (made at).moves c.requires.can.live (was at).apart (was at).ready.held

pub overflow_add-self-4 : goal.overflow_add-self-4
overflow_add-self-4 c =
    let b = c.args.self.now in
    let most = fits_most c.args._limit (datagrams c.args.pool.now b) c.args.len
    (memory_of (weight_at c.args.pool.now c.args.chain)) (omega (arith, c.ranges._limit.fits)) c.requires.can.fits in
    omega (
      arith,
      most.1,
      c.requires.can.ready.mbcnt,
      ap (λ (v : SockBufView). v.mbcnt) c.self.view_is,
      c.requires.bound,
    )

pub returns : goal.returns
returns c =
    let at = (goal.at.returns c).After-len-end in
    let old : List QueuedPacket = queued_packets c.link_counted.new.self c.self.inside.train in
    let new : QueuedPacket =
    record {
      number = c.in-Ok.whole;
      entries = (chain_of c.link_counted.new.self c.in-Ok.whole).entries;
      tag = 0;
    } in
    subst (λ (v : SockBufView). Appended c.args.pool.now v c.args.chain c.args.sender c.insert.new.pool
    (record {
      train = c.insert.new.self;
      cc = c.self.inside.cc + (16 + c.args.len);
      mbcnt = c.self.inside.mbcnt + (128 + c.args.memory);
    })) c.self.view_is
    (appended {b = record { train = c.self.inside.train; cc = c.self.inside.cc; mbcnt = c.self.inside.mbcnt }}
    {a = c.args.sender} _ _ (was at).ready (record {
      live = c.requires.can.live;
      some = c.laws.ensures.some _ c.requires.can.live;
      apart = (was at).apart;
      entries = (made at).entries;
      made = (made at).moves;
      queued_packets = c.insert.ensures.queued_packets ∙ ap (λ (n : ℕ). insert old n new) c.len-end.ensures;
      held = c.insert.ensures.held;
      moves = c.insert.ensures.moves;
    }) (omega (arith, c.requires.can.len)) (omega (arith, c.requires.memory)))
