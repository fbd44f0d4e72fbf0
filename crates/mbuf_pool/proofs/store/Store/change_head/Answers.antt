use Rattle.std.proofs.Common.{◌∙◌, sym, subst}
use Rattle.raw_cells.specs.declared.head.Head.{Head}
use Rattle.raw_cells.specs.Cells.{IsChange, SetsCellHead, changed}
use Rattle.mbuf_pool.specs.Store.{mbuf_head}
use Rattle.mbuf_pool.proofs.Reading.{head_is, index_is}
use Rattle.mbuf_pool.proofs.Effects.{field_sets, head_set, head_count, leaves_store}
use Rattle.mbuf_pool.proofs.store.Store.change_head.Goals as goal
use Rattle.mbuf_pool.proofs.store.Store.change_head.Goals.{After-change_head}

pub change_head-requires-clause-index : goal.change_head-requires-clause-index
change_head-requires-clause-index c =
    index_is c.self.inside c.args.self.now c.self.invariant c.self.view_is c.args.index c.requires.out

pub change_head-requires-clause-possible : goal.change_head-requires-clause-possible
change_head-requires-clause-possible c =
    subst (λ (h : Head). IsChange h c.args.change)
    (sym (head_is c.self.inside c.args.self.now c.self.invariant c.self.view_is c.args.index c.requires.out))
    c.requires.possible

sets : (c : After-change_head) → SetsCellHead c.self.inside.region c.change_head.new.self c.args.index
    (changed (mbuf_head c.args.self.now c.args.index) c.args.change)
sets c =
    field_sets c.self.inside c.args.self.now c.self.invariant c.self.view_is
    (λ (h : Head). changed h c.args.change) c.args.index c.change_head.new.self c.requires.out
    c.change_head.ensures.change

pub invariant_of-self : goal.invariant_of-self
invariant_of-self c =
    let set = sets (goal.at.invariant_of-self c).After-change_head in (
      c.self.invariant.0 ∙ sym (head_count c.self.inside.region c.change_head.new.self c.args.index _ set),
      (head_set c.self.inside c.args.self.now c.self.invariant c.self.view_is c.args.index _ c.change_head.new.self
          c.requires.out set).account,
    )

pub returns-clause-change : goal.returns-clause-change
returns-clause-change c =
    let set = sets (goal.at.returns-clause-change c).After-change_head in (
      set.0,
      set.1,
      (head_set c.self.inside c.args.self.now c.self.invariant c.self.view_is c.args.index _
          c.change_head.new.self c.requires.out set).seen,
    )

pub returns-clause-store : goal.returns-clause-store
returns-clause-store c =
    leaves_store (head_set c.self.inside c.args.self.now c.self.invariant c.self.view_is c.args.index _
    c.change_head.new.self c.requires.out (sets (goal.at.returns-clause-store c).After-change_head))
