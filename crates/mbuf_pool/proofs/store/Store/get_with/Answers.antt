use Rattle.std.proofs.Common.{◌-◌, ◌<◌, length, ◌∙◌, ap, sym}
use Rattle.raw_cells.specs.declared.head.Head.{Head}
use Rattle.mbuf_pool.specs.Store.{StoreView, TakesWith}
use Rattle.mbuf_pool.specs.Inside.Fields.{seen_in}
use Rattle.mbuf_pool.proofs.Reading.{free_mbufs_are, store_is}
use Rattle.mbuf_pool.proofs.Effects.{first_index, get_left, no_mbuf_free, head_count, leaves_store}
use Rattle.mbuf_pool.proofs.Steps.{Leaves}
use Rattle.mbuf_pool.proofs.store.Store.get_with.Goals as goal
use Rattle.mbuf_pool.proofs.store.Store.get_with.Goals.{In-Some, After-set_head}

pub returns-in_default-clause-err : goal.returns-in_default-clause-err
returns-in_default-clause-err c =
    let s = c.self.inside in let v = c.args.self.now in
    sym (free_mbufs_are s v c.self.invariant c.self.view_is)
    ∙ no_mbuf_free s v c.self.invariant c.self.view_is (sym c.get.ensures ∙ c.in_default.is)

pub returns-in_default-clause-store : goal.returns-in_default-clause-store
returns-in_default-clause-store c = store_is c.self.inside c.args.self.now c.self.invariant c.self.view_is

exists : (c : In-Some) → c.in-Some.index < length c.self.inside.region.heads
exists c =
    first_index c.self.inside c.args.self.now c.self.invariant c.self.view_is c.in-Some.index
    (sym c.get.ensures ∙ c.in-Some.is)

pub head-requires : goal.head-requires
head-requires c = exists (goal.at.head-requires c).In-Some

pub set_head-requires-clause-index : goal.set_head-requires-clause-index
set_head-requires-clause-index c = exists (goal.at.set_head-requires-clause-index c).In-Some

-- the mbuf is in use, and the next free one is the first
taken : (c : After-set_head) → (v : StoreView)
    × Leaves c.set_head.new.self c.self.inside.counts.items c.new-self-inside.result (c.self.inside.free_mbufs - 1)
    c.self.inside.first_cluster c.self.inside.free_clusters v
    × TakesWith c.args.self.now (seen_in c.set_head.new.self c.self.inside.counts.items c.new-self-inside.result)
    c.in-Some.index c.args.given
taken c =
    let left =
    get_left c.self.inside c.args.self.now c.self.invariant c.self.view_is c.args.given c.in-Some.index
    c.set_head.new.self c.new-self-inside.result (sym c.get.ensures ∙ c.in-Some.is)
    (c.new-self-inside.ensures ∙ ap (λ (h : Head). h.next) c.head.ensures.value) c.set_head.ensures.change in
    (_, left.0, left.1)

pub invariant_of-self : goal.invariant_of-self
invariant_of-self c = (
  c.self.invariant.0
      ∙ sym (head_count c.self.inside.region c.set_head.new.self c.in-Some.index c.args.given c.set_head.ensures.change),
  (taken (goal.at.invariant_of-self c).After-set_head).1.account,
)

pub returns-clause-ok : goal.returns-clause-ok
returns-clause-ok c = (taken (goal.at.returns-clause-ok c).After-set_head).2

pub returns-clause-store : goal.returns-clause-store
returns-clause-store c = leaves_store (taken (goal.at.returns-clause-store c).After-set_head).1
