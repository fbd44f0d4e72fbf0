use Rattle.std.proofs.Common.{◌++◌, ◌+◌, ◌≤◌, length, take, drop, false, refl, ap, arith}
use Rattle.ip_reass.specs.Inside.Walks.{arrived, is_left}
use Rattle.ip_reass.specs.Arrivals.{key_in}
use Rattle.ip_reass.proofs.InsertAndCount.{Lent, Reassembled, lent_table, lent_kept, reassembled, whole_short}
use Rattle.ip_reass.proofs.Queues.{covered_layout}
use Rattle.ip_reass.proofs.insert.insert_and_count.Goals.{After-count}
use Rattle.ip_reass.proofs.insert.insert_and_count.Goals as goal

pub returns-in-Covered-clause-layout : goal.returns-in-Covered-clause-layout
returns-in-Covered-clause-layout c =
    covered_layout c.args.table.now.len c.requires.place c.as_mut_slice.ensures.len c.as_mut_slice.ensures.value
    (ap is_left c.in-Covered.is) c.insert_in.ensures.inserts refl

pub returns-in-Waits-clause-step : goal.returns-in-Waits-clause-step
returns-in-Waits-clause-step c = λ fate rest held new here most is.
    lent_kept (lent_table c.args.table.now.len c.requires.place c.as_mut_slice.ensures.len c.as_mut_slice.ensures.value
    (ap is_left c.in-Waits.is) c.insert_in.ensures.inserts refl) fate rest held (key_in c.args.fragment.head)
    c.args.counters.now new c.requires.place here most c.in-Waits.ensures.whole is

-- ---- the datagram is whole
table : (c : After-count)
    → Lent c.args.pool.now c.args.table.now.items c.args.i c.args.fragment.chain
    (arrived c.args.pool.now c.args.fragment.chain c.args.fragment.head.offset c.args.fragment.head.more)
    c.insert_in.new.pool c.insert_in.new.table
    (take c.args.table.now.len (c.insert_in.new.table ++ drop (length c.insert_in.new.table) c.args.table.now.items))
table c =
    lent_table c.args.table.now.len c.requires.place c.as_mut_slice.ensures.len c.as_mut_slice.ensures.value
    (ap is_left c.in-Whole.is) c.insert_in.ensures.inserts refl

whole : (c : After-count)
    → Reassembled c.args.pool.now c.args.table.now.items c.args.i c.args.fragment.chain
    (arrived c.args.pool.now c.args.fragment.chain c.args.fragment.head.offset c.args.fragment.head.more)
    c.take_out-chain.new.pool c.take_out-chain.new.table.items c.take_out-chain.result c.in-Whole.len
whole c =
    reassembled (table c) c.requires.place c.laws.ensures c.in-Whole.ensures.whole c.take_out-chain.ensures.takes

short : (c : After-count) → c.in-Whole.len ≤ 65515
short c = whole_short (table c) c.in-Whole.len c.in-Whole.ensures.whole

pub overflow_add-result : goal.overflow_add-result
overflow_add-result c = omega (arith, short c)

pub overflow_cast-result : goal.overflow_cast-result
overflow_cast-result c = omega (arith, short c)

pub returns-clause-step : goal.returns-clause-step
returns-clause-step c = λ fate rest held new here most goes.
    (whole c).step fate rest held (key_in c.args.fragment.head) c.args.counters.now c.count.new.self new here most
    c.count.ensures goes

pub returns-clause-moves : goal.returns-clause-moves
returns-clause-moves c = (whole c).moves

pub returns-clause-whole : goal.returns-clause-whole
returns-clause-whole c = record {
  front = c.take_out-chain.ensures.takes.front;
  head = λ j. record (c.args.fragment.head) { total = 20 + (whole c).len j; more = false; offset = 0 };
}

pub returns-clause-layout : goal.returns-clause-layout
returns-clause-layout c = (whole c).leaves
