use Rattle.std.proofs.Common.{◌∙◌, sym}
use Rattle.mbuf_pool.proofs.Reading.{index_is}
use Rattle.mbuf_pool.proofs.Effects.{head_set, head_count, leaves_store}
use Rattle.mbuf_pool.proofs.store.Store.set_head.Goals as goal

pub set_head-requires-clause-index : goal.set_head-requires-clause-index
set_head-requires-clause-index c =
    index_is c.self.inside c.args.self.now c.self.invariant c.self.view_is c.args.index c.requires.out

pub invariant_of-self : goal.invariant_of-self
invariant_of-self c =
    let s = c.self.inside in let t = c.set_head.new.self in let sets = c.set_head.ensures.change in (
      c.self.invariant.0 ∙ sym (head_count s.region t c.args.index c.args.head sets),
      (head_set s c.args.self.now c.self.invariant c.self.view_is c.args.index c.args.head t c.requires.out
          sets).account,
    )

pub returns-clause-change : goal.returns-clause-change
returns-clause-change c =
    let s = c.self.inside in let t = c.set_head.new.self in let sets = c.set_head.ensures.change in (
      sets.0,
      sets.1,
      (head_set s c.args.self.now c.self.invariant c.self.view_is c.args.index c.args.head t
          c.requires.out sets).seen,
    )

pub returns-clause-store : goal.returns-clause-store
returns-clause-store c =
    let s = c.self.inside in let t = c.set_head.new.self in
    leaves_store (head_set s c.args.self.now c.self.invariant c.self.view_is c.args.index c.args.head t c.requires.out
    c.set_head.ensures.change)
