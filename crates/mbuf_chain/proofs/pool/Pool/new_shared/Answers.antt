use Rattle.std.proofs.Common.{◌≡◌, ◌<◌, ◌≤◌, ℕ, ◌+◌, Option, Some, length, arith, sym, ap, subst, ◌∙◌}
use Rattle.mbuf_pool.specs.Cells.{Head}
use Rattle.mbuf_pool.specs.Store.{cluster_count, mbuf_head, mbufs_out}
use Rattle.mbuf_pool.proofs.Laws.{free_or_out}
use Rattle.std.specs.Option.{IsSome}
use Rattle.mbuf_chain.specs.Chain.{PoolView, Adds, entry_in, held_mbufs}
use Rattle.mbuf_chain.specs.Steps.{narrowed, one_mbuf}
use Rattle.mbuf_chain.specs.Chain.{Entry}
use Rattle.mbuf_chain.specs.Inside.Access.{HasMbuf}
use Rattle.mbuf_chain.specs.Inside.Cells.{Taken, pool_of}
use Rattle.mbuf_chain.proofs.Places.{has_place}
use Rattle.mbuf_chain.proofs.Heads.{shown_at}
use Rattle.mbuf_chain.proofs.Made.{CanHold, IsMade, shared_made, none_free, one_free, can_hold, counted_at}
use Rattle.mbuf_chain.proofs.Stores.{taken}
use Rattle.mbuf_chain.proofs.pool.Pool.new_shared.Goals as goal
use Rattle.mbuf_chain.proofs.pool.Pool.new_shared.Goals.{After-head-head, After-hold, After-unwrap-cluster, In-Ok}

mbuf : (c : After-head-head) → HasMbuf c.self.inside.store c.args.chain.now c.args.at
mbuf c = has_place c.self.invariant c.self.view_is c.requires.live c.requires.place

within : (c : After-head-head) → c.args.skip + c.args.keep
    ≤ length (entry_in (pool_of c.self.inside.store) c.args.chain.now c.args.at).bytes
within c =
    subst (λ (p : PoolView). c.args.skip + c.args.keep ≤ length (entry_in p c.args.chain.now c.args.at).bytes)
    (sym c.self.view_is) c.requires.within

refers : (c : After-unwrap-cluster) → (mbuf_head c.self.inside.store c.args.at.cell).cluster ≡ Some c.unwrap-cluster.result
refers c = ap (λ (h : Head). h.cluster) (sym c.head-head.ensures.value) ∙ c.unwrap-cluster.ensures

can : (c : In-Ok) → 0 < cluster_count c.self.inside.store c.unwrap-cluster.result
    → CanHold c.self.inside.store c.get_with.new.self c.unwrap-cluster.result
can c counted = can_hold _ _ _ _ _ c.self.invariant (taken _ _ _ _ c.in-Ok.ensures.ok) counted

made : (c : After-hold) → HasMbuf c.self.inside.store c.args.chain.now c.args.at
    → c.args.skip + c.args.keep ≤ length (entry_in (pool_of c.self.inside.store) c.args.chain.now c.args.at).bytes
    → (mbuf_head c.self.inside.store c.args.at.cell).cluster ≡ Some c.unwrap-cluster.result
    → IsMade c.self.inside.store c.hold.new.self c.in-Ok.first
    (one_mbuf c.args.header
    (narrowed (entry_in (pool_of c.self.inside.store) c.args.chain.now c.args.at) c.args.skip c.args.keep)
    c.in-Ok.first)
made c has fits is =
    shared_made c.self.inside.store c.get_with.new.self c.hold.new.self c.in-Ok.first c.args.chain.now
    c.unwrap-cluster.result c.args.skip c.args.keep c.args.at c.args.header
    (c.head-head.result.start + c.args.skip) c.self.invariant (shown_at has) is
    (counted_at c.unwrap-cluster.result has is) fits
    (ap (λ (h : Head). h.start + c.args.skip) c.head-head.ensures.value)
    (subst (λ (h : Head). Taken c.self.inside.store c.get_with.new.self c.in-Ok.first h) c.head_for-shared.ensures
    (taken _ _ _ _ c.in-Ok.ensures.ok)) c.hold.ensures.change c.hold.ensures.store

pub head-head-requires : goal.head-head-requires
head-head-requires c = (shown_at (has_place c.self.invariant c.self.view_is c.requires.live c.requires.place)).out

pub unwrap-cluster-requires : goal.unwrap-cluster-requires
unwrap-cluster-requires c =
    subst (λ (o : Option ℕ). IsSome o)
    (ap (λ (e : Entry). e.cluster) (shown_at (mbuf (goal.at.unwrap-cluster-requires c).After-head-head)).entry
    ∙ ap (λ (h : Head). h.cluster) (sym c.head-head.ensures.value))
    (subst (λ (p : PoolView). IsSome (entry_in p c.args.chain.now c.args.at).cluster) (sym c.self.view_is)
    c.requires.refers)

pub overflow_add-head : goal.overflow_add-head
overflow_add-head c =
    let at = (goal.at.overflow_add-head c).After-head-head in
    let k = shown_at (mbuf at) in
    omega (arith, k.small, k.long, within at, ap (λ (h : Head). h.start) c.head-head.ensures.value)

pub hold-requires-clause-counted : goal.hold-requires-clause-counted
hold-requires-clause-counted c =
    let at = goal.at.hold-requires-clause-counted c in
    (can at.In-Ok (counted_at c.unwrap-cluster.result (mbuf at.After-head-head) (refers at.After-unwrap-cluster))).some

pub hold-requires-clause-below : goal.hold-requires-clause-below
hold-requires-clause-below c =
    let at = goal.at.hold-requires-clause-below c in
    (can at.In-Ok (counted_at c.unwrap-cluster.result (mbuf at.After-head-head) (refers at.After-unwrap-cluster))).few

pub invariant_of-self : goal.invariant_of-self
invariant_of-self c =
    let at = goal.at.invariant_of-self c in
    (made at.After-hold (mbuf at.After-head-head) (within at.After-head-head) (refers at.After-unwrap-cluster)).pool

pub returns-in-Ok-clause-ok : goal.returns-in-Ok-clause-ok
returns-in-Ok-clause-ok c =
    let at = goal.at.returns-in-Ok-clause-ok c in
    subst (λ (p : PoolView). Adds p (pool_of c.hold.new.self) c.in-Ok.first
    (one_mbuf c.args.header (narrowed (entry_in p c.args.chain.now c.args.at) c.args.skip c.args.keep)
    c.in-Ok.first)) c.self.view_is
    (made at.After-hold (mbuf at.After-head-head) (within at.After-head-head) (refers at.After-unwrap-cluster)).adds

pub returns-in-Err-clause-err : goal.returns-in-Err-clause-err
returns-in-Err-clause-err c =
    subst (λ (p : PoolView). held_mbufs p ≡ p.mbufs) c.self.view_is
    (let none : mbufs_out c.self.inside.store ≡ length c.self.inside.store.mbufs =
    omega (arith, free_or_out c.self.inside.store, c.in-Err.ensures.err) in
    none_free _ c.self.invariant none)

pub returns-in-Ok-clause-free : goal.returns-in-Ok-clause-free
returns-in-Ok-clause-free c =
    subst (λ (p : PoolView). held_mbufs p < p.mbufs) c.self.view_is
    (one_free _ _ _ _ c.self.invariant (taken _ _ _ _ c.in-Ok.ensures.ok))
