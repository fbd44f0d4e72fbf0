use Rattle.std.proofs.Common.{◌≡◌, ◌+◌, ◌-◌, ℕ, Some, arith, sym, ap, ◌∙◌, take, drop, suc}
use Rattle.mbuf_pool.specs.Cells.{Head}
use Rattle.mbuf_chain.specs.Inside.Cells.{cells_from, len_at, weigh, last_of}
use Rattle.mbuf_chain.proofs.Along.{NextOn, on_way, has_next, next_on, all_bytes, last_take, weigh_cut}
use Rattle.mbuf_chain.proofs.links.end_of.Goals as goal
use Rattle.mbuf_chain.proofs.links.end_of.Goals.{After-unwrap-at}

pub unwrap-at-requires : goal.unwrap-at-requires
unwrap-at-requires c =
    let i = c.mbufs.invariant in
    has_next c.args.store.now _ _ _ _ (on_way c.args.store.now _ _ _ i.some i.whole i.rest) i.head
    (omega (arith, c.mbufs-test.true, c.requires.within))

-- the mbuf after the one of this turn
after : (c : After-unwrap-at)
    → NextOn c.args.store.now (cells_from c.args.store.now (Some c.args.first)) c.mbufs.counter c.unwrap-at.result
after c =
    next_on c.args.store.now _ _ _ _ _
    (on_way c.args.store.now _ _ _ c.mbufs.invariant.some c.mbufs.invariant.whole c.mbufs.invariant.rest)
    c.mbufs.invariant.head c.unwrap-at.ensures

pub head-head-requires-in-mbufs : goal.head-head-requires-in-mbufs
head-head-requires-in-mbufs c = (after (goal.at.head-head-requires-in-mbufs c).After-unwrap-at).out

pub overflow_add-bytes : goal.overflow_add-bytes
overflow_add-bytes c =
    omega (
      arith,
      (after (goal.at.overflow_add-bytes c).After-unwrap-at).sum (len_at c.args.store.now),
      c.mbufs.invariant.sum,
      ap (λ (h : Head). h.len) c.head-head-in-mbufs.ensures.value,
      all_bytes c.args.store.now c.args.first c.requires.whole c.requires.store,
    )

pub mbufs-preserved : goal.mbufs-preserved
mbufs-preserved c =
    let s = c.args.store.now in
    let n = after (goal.at.mbufs-preserved c).After-unwrap-at in
    record {
      some = omega arith;
      head = c.head-head-in-mbufs.ensures.value;
      whole = n.whole;
      rest =
          n.rest ∙ (let same : c.mbufs.counter ≡ c.mbufs.counter + 1 - 1 = omega arith in
          ap (λ (k : ℕ). drop k (cells_from s (Some c.args.first))) same);
      sum =
          omega (
            arith,
            n.sum (len_at s),
            c.mbufs.invariant.sum,
            ap (λ (h : Head). h.len) c.head-head-in-mbufs.ensures.value,
          );
    }

pub returns-clause-cell : goal.returns-clause-cell
returns-clause-cell c =
    let s = c.args.store.now in
    let i = c.mbufs.invariant in
    let w = on_way s (cells_from s (Some c.args.first)) c.mbufs.counter c.mbufs.at i.some i.whole i.rest in
    let same : suc (c.mbufs.counter - 1) ≡ c.args.keep = omega arith in
    sym (ap (λ (k : ℕ). last_of (take k (cells_from s (Some c.args.first)))) (sym same)
    ∙ last_take (c.mbufs.counter - 1) c.mbufs.at (cells_from s (Some c.args.first)) _ w.here)

pub returns-clause-bytes : goal.returns-clause-bytes
returns-clause-bytes c =
    let s = c.args.store.now in
    let i = c.mbufs.invariant in
    let same : c.mbufs.counter ≡ c.args.keep = omega arith in
    omega (
      arith,
      i.sum,
      weigh_cut (len_at s) c.args.keep (cells_from s (Some c.args.first)),
      ap (λ (k : ℕ). weigh (len_at s) (drop k (cells_from s (Some c.args.first)))) same,
    )
