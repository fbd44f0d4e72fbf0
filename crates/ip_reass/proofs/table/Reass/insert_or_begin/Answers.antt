use Rattle.flat_model.specs.Machine.Fate.{told}
use Rattle.std.proofs.Common.{◌+◌, ◌<◌, ◌≤◌, ◌++◌, ◌∷◌, ◌∙◌, ℕ, length, refl, sym, ap, subst, arith}
use Rattle.mbuf_chain.specs.Chain.{ChainView, string}
use Rattle.mbuf_chain.specs.Owners.{Moves}
use Rattle.mbuf_chain.proofs.Laws.Owners.{moves_trans}
use Rattle.ip_reass.specs.Arrivals.{GoesOn, in_hand, key_in, with_waiting}
use Rattle.ip_reass.specs.Layouts.{HasLayout, LeavesAt, queues}
use Rattle.ip_reass.specs.declared.arrival.Arrival.{Arrival}
use Rattle.ip_reass.specs.declared.arrival.Arrival.TheVariants.{Kept}
use Rattle.ip_reass.specs.Inside.Walks.{arrived}
use Rattle.ip_reass.specs.Inside.Index.{buckets_of, rows_left}
use Rattle.ip_reass.specs.Table.{held_all}
use Rattle.ip_reass.proofs.Distinct.{distinct_after}
use Rattle.ip_reass.proofs.IndexAfter.{buckets_after, first_same}
use Rattle.ip_reass.proofs.HaveSome.{fragments_after}
use Rattle.ip_reass.proofs.PlaceOf.{Lacks, Placed, lacks_in, placed_in}
use Rattle.ip_reass.proofs.Queues.{cause_lacking}
use Rattle.ip_reass.proofs.Reserve.{room}
use Rattle.ip_reass.proofs.table.Reass.insert_or_begin.Goals as goal
use Rattle.ip_reass.proofs.table.Reass.insert_or_begin.Goals.{After-insert_and_count-arg-3-1}

pub place_of-requires-clause-few : goal.place_of-requires-clause-few
place_of-requires-clause-few c =
    room c.args.pool.now c.args.self.now.datagrams c.args.chain c.laws.ensures c.requires.ready.table
    c.requires.ready.fragments c.requires.owned

-- ---- no mbuf was free for the key
lacks : (c : goal.After-count_ended) → Lacks c.args.pool.now c.args.self.now c.args.counters.now (key_in c.args.head)
    c.args.chain c.free_chain.new.self c.place_of.new.self c.place_of.new.counters
lacks c =
    lacks_in c.args.pool.now c.args.self.now c.args.counters.now (key_in c.args.head) c.key_of.result c.args.chain
    c.requires.owned c.place_of.new.pool c.free_chain.new.self c.place_of.new.self c.place_of.new.counters
    c.place_of.result c.key_of.ensures c.in_default.is c.place_of.ensures c.free_chain.ensures

pub returns-in_default-clause-step : goal.returns-in_default-clause-step
returns-in_default-clause-step c = λ fate rest held new acc is.
    (lacks c).step fate rest held new c.args.head.offset c.args.head.more c.count_ended.new.self acc
    c.count_ended.ensures is

pub returns-in_default-clause-layout : goal.returns-in_default-clause-layout
returns-in_default-clause-layout c = record {
  waited = queues c.free_chain.new.self c.place_of.new.self.datagrams;
  before = (lacks c).waits;
  leaves = refl;
}

pub returns-in_default-clause-cause : goal.returns-in_default-clause-cause
returns-in_default-clause-cause c =
    cause_lacking (key_in c.args.head) (arrived c.args.pool.now c.args.chain c.args.head.offset c.args.head.more)
    (queues c.free_chain.new.self c.place_of.new.self.datagrams) c.requires.some (lacks c).none

pub returns-in_default-clause-ready : goal.returns-in_default-clause-ready
returns-in_default-clause-ready c = (lacks c).ready

pub returns-in_default-clause-moves : goal.returns-in_default-clause-moves
returns-in_default-clause-moves c = (lacks c).moves

-- ---- it's put at its place
there : (c : After-insert_and_count-arg-3-1)
    → Placed c.args.pool.now c.args.self.now c.args.counters.now (key_in c.args.head) c.args.chain c.in-Some.i
    c.place_of.new.pool (record { datagrams = c.self.inside.datagrams.items; room = c.self.inside.index.room })
    c.place_of.new.counters
there c =
    placed_in c.args.pool.now c.args.self.now c.args.counters.now (key_in c.args.head) c.key_of.result c.args.chain
    c.in-Some.i c.requires.ready c.requires.owned c.requires.some c.place_of.new.pool c.place_of.new.self
    (record { datagrams = c.self.inside.datagrams.items; room = c.self.inside.index.room })
    c.place_of.new.counters c.place_of.result c.key_of.ensures c.self.view_is c.in-Some.is c.place_of.ensures

pub insert_and_count-arrival-requires : goal.insert_and_count-arrival-requires
insert_and_count-arrival-requires c =
    let s = there c in
    record {
      table = s.table;
      place = s.within;
      owned = s.stays.owned;
      headed = ap (λ (v : ChainView). v.front.header) s.stays.chain ∙ c.requires.headed;
      some = subst (λ (v : ChainView). 0 < length (string v)) (sym s.stays.chain) c.requires.some;
      small =
          subst (λ (v : ChainView). c.args.head.offset + length (string v) ≤ 65515) (sym s.stays.chain)
          c.requires.small;
    }

-- ---- it's kept
pub returns-in-Kept-clause-layout : goal.returns-in-Kept-clause-layout
returns-in-Kept-clause-layout c =
    let s = there (goal.at.returns-in-Kept-clause-layout c).After-insert_and_count-arg-3-1 in
    subst (λ (r : Arrival). HasLayout c.args.pool.now c.args.self.now.datagrams (key_in c.args.head)
    (arrived c.args.pool.now c.args.chain c.args.head.offset c.args.head.more) r c.insert_and_count-arrival.new.pool
    c.insert_and_count-arrival.new.table.items) c.in-Kept.is
    (s.layout _ _ _ _ _ c.insert_and_count-arrival.ensures.layout)

pub returns-in-Kept-clause-step : goal.returns-in-Kept-clause-step
returns-in-Kept-clause-step c = λ fate rest held new acc goes.
    let s = there (goal.at.returns-in-Kept-clause-step c).After-insert_and_count-arg-3-1 in
    s.step fate rest held new c.args.head.offset c.args.head.more acc
    (λ here most. c.insert_and_count-arrival.ensures.step fate rest held new here most
    (subst (λ (r : Arrival). GoesOn (told fate) held c.insert_and_count-arrival.new.pool r
    (with_waiting c.insert_and_count-arrival.new.pool c.insert_and_count-arrival.new.table.items
    c.insert_and_count-arrival.new.counters rest) new) (sym c.in-Kept.is) goes))

pub returns-in-Kept-clause-ready : goal.returns-in-Kept-clause-ready
returns-in-Kept-clause-ready c =
    let s = there (goal.at.returns-in-Kept-clause-ready c).After-insert_and_count-arg-3-1 in
    record {
      table = c.insert_and_count-arrival.ensures.table;
      fragments =
          fragments_after (returns-in-Kept-clause-layout c) c.requires.ready.table c.requires.ready.fragments
          c.insert_and_count-arrival.ensures.table;
      room = omega (arith, c.insert_and_count-arrival.ensures.moves.mbufs, s.room);
      distinct = distinct_after (returns-in-Kept-clause-layout c) c.requires.ready.distinct;
    }

pub returns-in-Kept-clause-moves : goal.returns-in-Kept-clause-moves
returns-in-Kept-clause-moves c =
    let s = there (goal.at.returns-in-Kept-clause-moves c).After-insert_and_count-arg-3-1 in
    subst (λ (r : Arrival). Moves c.args.pool.now (c.args.chain ∷ held_all c.args.pool.now c.args.self.now.datagrams)
    c.insert_and_count-arrival.new.pool
    (in_hand r ++ held_all c.insert_and_count-arrival.new.pool c.insert_and_count-arrival.new.table.items)) c.in-Kept.is
    (moves_trans s.stays.moves c.insert_and_count-arrival.ensures.moves)

pub invariant_of-self : goal.invariant_of-self
invariant_of-self c =
    let s = there (goal.at.invariant_of-self c).After-insert_and_count-arg-3-1 in
    let es = c.insert_and_count-arrival.new.table.items in
    let f = arrived c.place_of.new.pool c.args.chain c.args.head.offset c.args.head.more in (
      omega (arith, c.insert_and_count-arrival.ensures.len, c.self.invariant.0),
      omega (arith, c.insert_and_count-arrival.ensures.capacity, c.self.invariant.1),
      record {
        some = c.self.invariant.2.some;
        rows =
            first_same c.self.inside.index.buckets (buckets_of c.self.inside.index.count c.self.inside.datagrams.items)
            (buckets_of c.self.inside.index.count es) c.self.invariant.2.rows
            (buckets_after c.self.inside.index.count c.in-Some.i f c.place_of.new.pool
            c.insert_and_count-arrival.new.pool c.self.inside.datagrams.items es Kept s.within
            (subst (λ (r : Arrival). LeavesAt c.in-Some.i f
            (queues c.place_of.new.pool c.self.inside.datagrams.items) c.insert_and_count-arrival.new.pool r
            (queues c.insert_and_count-arrival.new.pool es)) c.in-Kept.is c.insert_and_count-arrival.ensures.layout));
      },
    )

-- ---- it's whole, or dropped
pub returns-clause-layout : goal.returns-clause-layout
returns-clause-layout c =
    let s = there (goal.at.returns-clause-layout c).After-insert_and_count-arg-3-1 in
    s.layout _ _ _ _ _ c.insert_and_count-arrival.ensures.layout

pub returns-clause-step : goal.returns-clause-step
returns-clause-step c = λ fate rest held new acc goes.
    let s = there (goal.at.returns-clause-step c).After-insert_and_count-arg-3-1 in
    s.step fate rest held new c.args.head.offset c.args.head.more acc
    (λ here most. c.insert_and_count-arrival.ensures.step fate rest held new here most goes)

pub returns-clause-whole : goal.returns-clause-whole
returns-clause-whole c = c.insert_and_count-arrival.ensures.whole

pub returns-clause-cause : goal.returns-clause-cause
returns-clause-cause c =
    let s = there (goal.at.returns-clause-cause c).After-insert_and_count-arg-3-1 in
    s.cause _ _ _ c.insert_and_count-arrival.new.pool _ c.insert_and_count-arrival.ensures.layout
    c.insert_and_count-arrival.ensures.cause

pub returns-clause-ready : goal.returns-clause-ready
returns-clause-ready c =
    let s = there (goal.at.returns-clause-ready c).After-insert_and_count-arg-3-1 in
    record {
      table = c.insert_and_count-arrival.ensures.table;
      fragments =
          fragments_after (returns-clause-layout c) c.requires.ready.table c.requires.ready.fragments
          c.insert_and_count-arrival.ensures.table;
      room =
          omega (arith, c.insert_and_count-arrival.ensures.moves.mbufs, s.room, c.follow.ensures.room);
      distinct = distinct_after (returns-clause-layout c) c.requires.ready.distinct;
    }

pub returns-clause-moves : goal.returns-clause-moves
returns-clause-moves c =
    let s = there (goal.at.returns-clause-moves c).After-insert_and_count-arg-3-1 in
    moves_trans s.stays.moves c.insert_and_count-arrival.ensures.moves

pub invariant_of-self-2 : goal.invariant_of-self-2
invariant_of-self-2 c =
    let s = there (goal.at.invariant_of-self-2 c).After-insert_and_count-arg-3-1 in
    let es = c.insert_and_count-arrival.new.table.items in
    let n = c.self.inside.index.count in
    let ds = c.self.inside.datagrams.items in
    let f = arrived c.place_of.new.pool c.args.chain c.args.head.offset c.args.head.more in (
      omega (arith, c.insert_and_count-arrival.ensures.len, c.self.invariant.0),
      omega (arith, c.follow.ensures.room, c.insert_and_count-arrival.ensures.capacity, c.self.invariant.1),
      record {
        some = omega (arith, c.follow.ensures.count, c.self.invariant.2.some);
        rows =
            first_same c.follow.new.self.buckets
            (rows_left c.insert_and_count-arrival.result c.in-Some.i (buckets_of n ds))
            (buckets_of c.follow.new.self.count es) (c.follow.ensures.rows (buckets_of n ds) c.self.invariant.2.rows)
            (buckets_after n c.in-Some.i f c.place_of.new.pool c.insert_and_count-arrival.new.pool ds es
            c.insert_and_count-arrival.result s.within c.insert_and_count-arrival.ensures.layout
            ∙ ap (λ (k : ℕ). buckets_of k es) (sym c.follow.ensures.count));
      },
    )
