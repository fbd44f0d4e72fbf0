use Rattle.std.proofs.Common.{◌∙◌, refl, ap, arith}
use Rattle.mbuf_chain.specs.Chain.{PoolView}
use Rattle.flat_model.specs.Amounts.Weight.{◌⊕◌}
use Rattle.ledger.specs.Accounts.{weight_at}
use Rattle.ip_reass.specs.Arrivals.{with_waiting}
use Rattle.ip_reass.specs.Same.{distinct_same}
use Rattle.ip_reass.proofs.Queues.{wait_then, wait_reserved, none_reserved}
use Rattle.ip_reass.proofs.Reserve.{Freed, stays, freed}
use Rattle.ip_reass.proofs.ArriveLemmas.{Pulled, pulled, pulled_done, pulled_lacking}
use Rattle.ip_reass.proofs.table.Reass.pull_up.Goals as goal
use Rattle.ip_reass.proofs.table.Reass.pull_up.Goals.{After-free_chain, In-Ok}

-- the fragment was freed
gone : (c : After-free_chain) → Freed c.args.pool.now c.args.self.now.datagrams c.args.chain c.reserve.new.pool
    c.free_chain.new.self c.reserve.new.waiting.datagrams
gone c =
    freed c.args.pool.now c.reserve.new.pool c.free_chain.new.self c.args.self.now.datagrams
    c.reserve.new.waiting.datagrams c.args.chain
    (stays c.args.pool.now c.reserve.new.pool c.args.self.now.datagrams c.reserve.new.waiting.datagrams c.args.chain
    c.requires.owned c.reserve.ensures.moves) c.reserve.ensures.ready.table c.free_chain.ensures

-- its header was pulled up
pulled_up : (c : In-Ok) → Pulled c.args.pool.now c.args.self.now.datagrams c.args.chain c.reserve.new.pool
    c.m_pullup.new.pool c.reserve.new.waiting.datagrams c.m_pullup.new.chain
pulled_up c =
    pulled c.args.pool.now c.reserve.new.pool c.m_pullup.new.pool c.args.self.now.datagrams
    c.reserve.new.waiting.datagrams c.args.chain c.m_pullup.new.chain _ _
    (stays c.args.pool.now c.reserve.new.pool c.args.self.now.datagrams c.reserve.new.waiting.datagrams c.args.chain
    c.requires.owned c.reserve.ensures.moves) c.reserve.ensures.ready.table c.in-Ok.ensures.ok

pub returns-then-not-reserve-clause-tested : goal.returns-then-not-reserve-clause-tested
returns-then-not-reserve-clause-tested c = λ cluster rest held acc.
    let r =
    c.reserve.ensures.reserves (with_waiting c.args.pool.now c.args.self.now.datagrams c.args.counters.now rest)
    (held ⊕ weight_at c.args.pool.now c.args.chain) refl refl acc in
    let fr = gone (goal.at.returns-then-not-reserve-clause-tested c).After-free_chain in
    pulled_lacking rest held (weight_at c.args.pool.now c.args.chain) c.args.pool.now c.reserve.new.pool
    c.free_chain.new.self c.args.self.now.datagrams c.reserve.new.waiting.datagrams c.args.counters.now
    c.reserve.new.counters c.count_ended.new.self c.reserve.result c.if-not-reserve.true r.has_buffers fr.shows
    c.count_ended.ensures

pub returns-then-not-reserve-clause-ready : goal.returns-then-not-reserve-clause-ready
returns-then-not-reserve-clause-ready c = record {
  table =
      (gone (goal.at.returns-then-not-reserve-clause-ready c).After-free_chain).table;
  fragments = c.reserve.ensures.ready.fragments;
  room = omega (arith, c.reserve.ensures.ready.room, ap (λ (q : PoolView). q.mbufs) c.free_chain.ensures);
  distinct =
      distinct_same c.reserve.new.pool c.free_chain.new.self c.reserve.new.waiting.datagrams
      c.reserve.new.waiting.datagrams
      (gone (goal.at.returns-then-not-reserve-clause-ready c).After-free_chain).shows
      c.reserve.ensures.ready.distinct;
}

pub returns-then-not-reserve-clause-moves : goal.returns-then-not-reserve-clause-moves
returns-then-not-reserve-clause-moves c =
    (gone (goal.at.returns-then-not-reserve-clause-moves c).After-free_chain).moves

pub returns-clause-tested : goal.returns-clause-tested
returns-clause-tested c = λ cluster rest held acc.
    let r =
    c.reserve.ensures.reserves (with_waiting c.args.pool.now c.args.self.now.datagrams c.args.counters.now rest)
    (held ⊕ weight_at c.args.pool.now c.args.chain) refl refl acc in
    let u = pulled_up (goal.at.returns-clause-tested c).In-Ok in
    pulled_done rest held (weight_at c.args.pool.now c.args.chain) c.args.pool.now c.reserve.new.pool
    c.m_pullup.new.pool c.args.self.now.datagrams c.reserve.new.waiting.datagrams c.args.counters.now
    c.reserve.new.counters c.reserve.result c.if-not-reserve.false r.has_buffers u.shows

pub returns-clause-ready : goal.returns-clause-ready
returns-clause-ready c =
    let u = pulled_up (goal.at.returns-clause-ready c).In-Ok in
    record {
      table = u.table;
      fragments = c.reserve.ensures.ready.fragments;
      room = omega (arith, c.reserve.ensures.ready.room, u.moves.mbufs, c.reserve.ensures.moves.mbufs);
      distinct =
          distinct_same c.reserve.new.pool c.m_pullup.new.pool c.reserve.new.waiting.datagrams
          c.reserve.new.waiting.datagrams u.shows c.reserve.ensures.ready.distinct;
    }

pub returns-clause-moves : goal.returns-clause-moves
returns-clause-moves c =
    (pulled_up (goal.at.returns-clause-moves c).In-Ok).moves

pub returns-clause-waits : goal.returns-clause-waits
returns-clause-waits c =
    wait_then _ _ _
    (wait_reserved c.args.pool.now c.reserve.new.pool c.args.self.now c.reserve.new.waiting c.args.counters.now
    c.reserve.new.counters _ c.reserve.ensures.kept c.reserve.ensures.none)
    (pulled_up (goal.at.returns-clause-waits c).In-Ok).rows

pub returns-then-not-reserve-clause-none : goal.returns-then-not-reserve-clause-none
returns-then-not-reserve-clause-none c = λ lacks.
    (gone (goal.at.returns-then-not-reserve-clause-none c).After-free_chain).rows
    ∙ none_reserved c.args.pool.now c.reserve.new.pool c.args.self.now c.reserve.new.waiting c.args.counters.now
    c.reserve.new.counters c.reserve.result c.reserve.ensures.kept c.reserve.ensures.none c.reserve.ensures.answer
    c.if-not-reserve.true
