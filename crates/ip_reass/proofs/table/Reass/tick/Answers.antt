use Rattle.std.proofs.Common.{◌≡◌, ◌-◌, ℕ, List, length, take, subst, sym, ap, ◌∙◌, arith, sum_by}
use Rattle.ip_reass.specs.declared.datagram.Datagram.{Datagram}
use Rattle.mbuf_chain.specs.Owners.{Moves}
use Rattle.ip_reass.specs.Table.{aged, held_all, holds, AllUnfinished, IsTable}
use Rattle.std.proofs.lemmas.Bool.{ltb-false}
use Rattle.std.proofs.lemmas.List.{length-take-le}
use Rattle.ip_reass.specs.Table.{TableView}
use Rattle.ip_reass.proofs.Aging.{reordered, table_reordered, lent, tick_step, aged_distinct}
use Rattle.ip_reass.proofs.HaveSome.{aged_fragments}
use Rattle.ip_reass.specs.Inside.Index.{buckets_of}
use Rattle.ip_reass.proofs.IndexAfter.{aged_same, first_same}
use Rattle.ip_reass.proofs.table.Reass.tick.Goals.{After-age-kept, After-clear_if}
use Rattle.ip_reass.proofs.table.Reass.tick.Goals as goal

-- the datagrams before they age, and how many of them stay
was : (c : After-age-kept) → c.as_mut_slice.result.now ≡ c.args.self.now.datagrams
was c = c.as_mut_slice.ensures.value ∙ ap (λ (r : TableView). r.datagrams) c.self.view_is

size : (c : After-age-kept) → length c.args.self.now.datagrams ≡ c.self.inside.datagrams.len
size c = omega (arith, c.as_mut_slice.ensures.len, ap (λ (xs : List Datagram). length xs) (was c))

kept : (c : After-age-kept) → length (aged c.args.self.now.datagrams) ≡ c.age-kept.result
kept c =
    ap (λ (xs : List Datagram). length xs) (sym (c.age-kept.ensures.kept ∙ ap aged (was c)))
    ∙ length-take-le c.age-kept.result c.age-kept.new.table c.age-kept.ensures.within

pub free_beyond-requires-clause-table : goal.free_beyond-requires-clause-table
free_beyond-requires-clause-table c =
    let long : length c.age-kept.new.table ≡ c.self.inside.datagrams.len = omega arith in
    let old = was (goal.at.free_beyond-requires-clause-table c).After-age-kept in
    subst (IsTable c.args.pool.now)
    (sym (lent c.self.inside.datagrams.len c.self.inside.datagrams.items c.age-kept.new.table long))
    (reordered c.args.pool.now c.args.self.now.datagrams c.age-kept.new.table c.requires.table
    (λ k. c.age-kept.ensures.holds c.args.pool.now k ∙ ap (sum_by (holds c.args.pool.now k)) old)
    (c.age-kept.ensures.each c.args.pool.now (subst (AllUnfinished c.args.pool.now) (sym old) c.requires.table.each))
    (omega (arith, ap (λ (xs : List Datagram). length xs) old)))

pub returns-clause-moves : goal.returns-clause-moves
returns-clause-moves c =
    let long : length c.age-kept.new.table ≡ c.self.inside.datagrams.len = omega arith in
    let old = was (goal.at.returns-clause-moves c).After-age-kept in
    table_reordered c.args.pool.now c.free_beyond.new.pool c.args.self.now.datagrams c.age-kept.new.table
    (held_all c.free_beyond.new.pool c.free_beyond.new.table.items)
    (λ k. c.age-kept.ensures.holds c.args.pool.now k ∙ ap (sum_by (holds c.args.pool.now k)) old)
    (subst (λ (ds : List Datagram). Moves c.args.pool.now (held_all c.args.pool.now ds) c.free_beyond.new.pool
    (held_all c.free_beyond.new.pool c.free_beyond.new.table.items)) (lent c.self.inside.datagrams.len
    c.self.inside.datagrams.items c.age-kept.new.table long) c.free_beyond.ensures.moves)

aged_now : (c : After-clear_if) → c.free_beyond.new.table.items ≡ aged c.args.self.now.datagrams
aged_now c =
    let long : length c.age-kept.new.table ≡ c.self.inside.datagrams.len = omega arith in
    c.free_beyond.ensures.items ∙ (ap (take c.age-kept.result)
    (lent c.self.inside.datagrams.len c.self.inside.datagrams.items c.age-kept.new.table long)
    ∙ (c.age-kept.ensures.kept
    ∙ ap aged (c.as_mut_slice.ensures.value ∙ ap (λ (r : TableView). r.datagrams) c.self.view_is)))

pub returns-clause-step : goal.returns-clause-step
returns-clause-step c = λ rest d.
    let at = (goal.at.returns-clause-step c).After-age-kept in
    tick_step rest d c.args.pool.now c.free_beyond.new.pool c.args.self.now.datagrams c.free_beyond.new.table.items
    (c.len-before.result - c.age-kept.result) (aged_now c) c.free_beyond.ensures.same
    (omega (arith, kept at, size at, c.len-before.ensures, c.age-kept.ensures.within))

pub returns-clause-ready : goal.returns-clause-ready
returns-clause-ready c = record {
  table = c.free_beyond.ensures.table;
  fragments = aged_fragments c.args.self.now.datagrams c.free_beyond.new.table.items (aged_now c) c.requires.fragments;
  room =
      omega (
        arith,
        c.free_beyond.ensures.capacity,
        ap (λ (r : TableView). r.room) c.self.view_is,
        c.requires.room,
        c.free_beyond.ensures.moves.mbufs,
      );
  distinct =
      aged_distinct c.args.pool.now c.free_beyond.new.pool c.args.self.now.datagrams c.free_beyond.new.table.items
      (aged_now c) c.free_beyond.ensures.same c.requires.distinct;
}

pub invariant_of-self : goal.invariant_of-self
invariant_of-self c =
    let n = c.self.inside.index.count in
    let ds = c.self.inside.datagrams.items in
    let es = c.free_beyond.new.table.items in
    let at = goal.at.invariant_of-self c in
    let now = aged_now at.After-clear_if in (
      omega (
        arith,
        c.free_beyond.ensures.len,
        c.age-kept.ensures.within,
        c.as_mut_slice.ensures.len,
        c.self.invariant.0,
      ),
      omega (arith, c.clear_if.ensures.room, c.free_beyond.ensures.capacity, c.self.invariant.1),
      record {
        some = omega (arith, c.clear_if.ensures.count, c.self.invariant.2.some);
        rows =
            first_same c.clear_if.new.self.buckets (buckets_of n es) (buckets_of c.clear_if.new.self.count es)
            (c.clear_if.ensures.rows (buckets_of n ds) (buckets_of n es) c.self.invariant.2.rows
            (λ e. ap (λ (r : TableView). buckets_of n r.datagrams) c.self.view_is
            ∙ aged_same n c.args.self.now.datagrams (omega (
              arith,
              ltb-false c.age-kept.result c.len-before.result e,
              kept at.After-age-kept,
              size at.After-age-kept,
              c.len-before.ensures,
              c.age-kept.ensures.within,
            )) ∙ ap (buckets_of n) (sym now))) (ap (λ (k : ℕ). buckets_of k es) (sym c.clear_if.ensures.count));
      },
    )
