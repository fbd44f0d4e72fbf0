use Rattle.std.proofs.Common.{◌∙◌, sym, subst, arith}
use Rattle.raw_cells.specs.Cells.{IsLink}
use Rattle.mbuf_pool.proofs.Reading.{index_is, first_links, few_mbufs}
use Rattle.mbuf_pool.proofs.Effects.{first_is, put_back, leaves_store, head_count}
use Rattle.mbuf_pool.proofs.store.Store.put.Goals as goal

pub change_head-requires-clause-index : goal.change_head-requires-clause-index
change_head-requires-clause-index c =
    index_is c.self.inside c.args.self.now c.self.invariant c.self.view_is c.args.index c.requires

pub change_head-requires-clause-possible : goal.change_head-requires-clause-possible
change_head-requires-clause-possible c = subst IsLink (sym c.get.ensures) (first_links c.self.inside c.self.invariant)

pub new-self-inside-requires : goal.new-self-inside-requires
new-self-inside-requires c =
    omega (
      arith,
      index_is c.self.inside c.args.self.now c.self.invariant c.self.view_is c.args.index c.requires,
      c.self.invariant.1.2.sized.mbufs.1,
    )

pub overflow_add-self : goal.overflow_add-self
overflow_add-self c = omega (arith, few_mbufs c.self.inside c.self.invariant)

pub invariant_of-self : goal.invariant_of-self
invariant_of-self c = (
  c.self.invariant.0 ∙ sym (head_count c.self.inside.region c.change_head.new.self c.args.index _
      c.change_head.ensures.change),
  (first_is c.new-self-inside.ensures
      (put_back c.self.inside c.args.self.now c.self.invariant c.self.view_is c.args.index _ c.change_head.new.self
      c.requires c.get.ensures c.change_head.ensures.change)).account,
)

pub returns-clause-change : goal.returns-clause-change
returns-clause-change c =
    (first_is c.new-self-inside.ensures
    (put_back c.self.inside c.args.self.now c.self.invariant c.self.view_is c.args.index _ c.change_head.new.self
    c.requires c.get.ensures c.change_head.ensures.change)).seen

pub returns-clause-store : goal.returns-clause-store
returns-clause-store c =
    leaves_store (first_is c.new-self-inside.ensures
    (put_back c.self.inside c.args.self.now c.self.invariant c.self.view_is c.args.index _ c.change_head.new.self
    c.requires c.get.ensures c.change_head.ensures.change))
