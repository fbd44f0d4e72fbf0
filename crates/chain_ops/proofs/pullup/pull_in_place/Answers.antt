use Rattle.std.proofs.Common.{◌≡◌, ℕ, ◌-◌, ◌++◌, ◌∷◌, ◌≤◌, length, take, drop, arith, ap, sym, refl, ◌∙◌, subst}
use Rattle.std.proofs.lemmas.List.{length-take}
use Rattle.mbuf_chain.specs.declared.place.Segment.{Segment}
use Rattle.mbuf_chain.specs.Chain.{Entry, ChainView, PoolView, Adds, HasTrailingSpace, chain_of, entry_of, with_chain, flat_bytes}
use Rattle.mbuf_chain.specs.Steps.{first_part}
use Rattle.mbuf_chain.proofs.Laws.Owners.{live_here, live_adds, shown_adds, chain_here}
use Rattle.mbuf_chain.proofs.Laws.Steps.{live_beside, apart, base_cut}
use Rattle.chain_ops.specs.Pulls.{moved}
use Rattle.chain_ops.proofs.Laws.Steps.{kept_adds}
use Rattle.chain_ops.proofs.Laws.Makes.{makes_as, makes_in_place}
use Rattle.chain_ops.proofs.Trims.{changed_none}
use Rattle.chain_ops.proofs.Joins.{first_entry, first_split, room_plain, room_back, moved-none, first_bytes}
use Rattle.chain_ops.proofs.pullup.pull_in_place.Goals as goal
use Rattle.chain_ops.proofs.pullup.pull_in_place.Goals.{After-segment-len}

-- the chain after it was cut after its first mbuf
here : (p q : PoolView) (k d : ℕ) (w : ChainView) → Adds (with_chain p k (first_part 1 (chain_of p k))) q d w
    → chain_of q k ≡ first_part 1 (chain_of p k)
here p q k d w a =
    kept_adds _ q d k w a (live_here p k (first_part 1 (chain_of p k))) ∙ chain_here p k (first_part 1 (chain_of p k))

first_of : (p q : PoolView) (k d i : ℕ) (w : ChainView) → Adds (with_chain p k (first_part 1 (chain_of p k))) q d w
    → i ≡ 0 → entry_of (chain_of q k) i ≡ entry_of (chain_of p k) 0
first_of p q k d i w a z = (λ j. entry_of (here p q k d w a j) (z j)) ∙ first_entry (chain_of p k)

first_len : (c : After-segment-len)
    → c.segment-len.result.len ≡ length (entry_of (chain_of c.args.pool.now c.args.chain.now) 0).bytes
first_len c =
    ap (λ (x : Segment). x.len) c.segment-len.ensures.value
    ∙ ap (λ (i : ℕ). length (entry_of (chain_of c.args.pool.now c.args.chain.now) i).bytes) c.first-first.ensures.index

pub pull-requires-clause-back : goal.pull-requires-clause-back
pull-requires-clause-back c = live_adds c.cut-rest.ensures

pub pull-requires-clause-apart : goal.pull-requires-clause-apart
pull-requires-clause-apart c =
    apart _ _ _ _ c.cut-rest.ensures _
    (live_here c.args.pool.now c.args.chain.now (first_part 1 (chain_of c.args.pool.now c.args.chain.now)))

pub pull-requires-clause-last : goal.pull-requires-clause-last
pull-requires-clause-last c =
    omega (
      arith,
      c.first-at.ensures.index,
      ap (λ (x : ChainView). length x.entries) (here c.args.pool.now _ _ _ _ c.cut-rest.ensures),
      length-take 1 (chain_of c.args.pool.now c.args.chain.now).entries,
      c.first-first.ensures.place.within,
    )

pub pull-requires-clause-plain : goal.pull-requires-clause-plain
pull-requires-clause-plain c =
    ap (λ (e : Entry). e.cluster) (first_of c.args.pool.now _ _ _ _ _ c.cut-rest.ensures c.first-at.ensures.index)
    ∙ room_plain (entry_of (chain_of c.args.pool.now c.args.chain.now) 0) c.args.n c.requires.room

pub pull-requires-clause-room : goal.pull-requires-clause-room
pull-requires-clause-room c =
    let e : Entry = entry_of (chain_of c.args.pool.now c.args.chain.now) 0 in
    let len = first_len (goal.at.pull-requires-clause-room c).After-segment-len in
    let le : length e.bytes ≤ c.args.n = omega (arith, len, c.if-len-n.true) in
    subst (λ (f : Entry). HasTrailingSpace f (c.args.n - c.segment-len.result.len))
    (sym (first_of c.args.pool.now _ _ _ _ _ c.cut-rest.ensures c.first-at.ensures.index))
    (subst (λ (n : ℕ). HasTrailingSpace e (c.args.n - n)) (sym len) (room_back e c.args.n c.requires.room le))

pub pull-requires-clause-len : goal.pull-requires-clause-len
pull-requires-clause-len c = λ t.
    omega (
      arith,
      c.counted_len-counted.ensures t,
      first_bytes _ c.first-first.result c.first-first.ensures.place c.first-first.ensures.index,
      ap (λ (x : Segment). x.len) c.segment-len.ensures.value,
      ap (λ (x : ChainView). length (flat_bytes x.entries)) (shown_adds c.cut-rest.ensures),
      c.saturating_sub.ensures,
    )

pub returns-then-len-n : goal.returns-then-len-n
returns-then-len-n c =
    let p : PoolView = c.args.pool.now in
    let k : ℕ = c.args.chain.now in
    let v : ChainView = chain_of p k in
    let q : PoolView = c.cut-rest.new.self in
    let len = first_len (goal.at.returns-then-len-n c).After-segment-len in
    let first = first_of p q k _ c.first-at.result.index _ c.cut-rest.ensures c.first-at.ensures.index in
    let rest = ap (λ (x : ChainView). x.entries) (shown_adds c.cut-rest.ensures) in
    makes_as _ v.front _ c.pull.ensures (base_cut p q k _ _ _ c.cut-rest.ensures)
    (ap (λ (x : ChainView). x.front) (here p q k _ _ c.cut-rest.ensures))
    (λ j. take (c.first-at.ensures.index j) (chain_of q k).entries ++ moved (c.args.n - len j) (first j) (rest j))

pub returns-else-len-n : goal.returns-else-len-n
returns-else-len-n c =
    let v : ChainView = chain_of c.args.pool.now c.args.chain.now in
    let e : Entry = entry_of v 0 in
    let len = first_len (goal.at.returns-else-len-n c).After-segment-len in
    let none : c.args.n - length e.bytes ≡ 0 = omega (arith, len, c.if-len-n.false) in
    let m = makes_in_place c.args.pool.now _ _ v (changed_none c.args.pool.now c.args.chain.now c.requires.live) in
    makes_as _ v.front _ m refl refl
    (first_split v c.first-first.result c.first-first.ensures.place c.first-first.ensures.index
    ∙ ap (λ (i : ℕ). entry_of v i ∷ drop 1 v.entries) c.first-first.ensures.index
    ∙ sym (moved-none e (drop 1 v.entries) (c.args.n - length e.bytes) none))

pub first-at-requires : goal.first-at-requires
first-at-requires c =
    live_beside _ _ _ _ c.cut-rest.ensures _
    (live_here c.args.pool.now c.args.chain.now (first_part 1 (chain_of c.args.pool.now c.args.chain.now)))
