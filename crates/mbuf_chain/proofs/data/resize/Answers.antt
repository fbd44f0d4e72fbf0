use Rattle.std.proofs.Common.{arith, ap, ◌∙◌}
use Rattle.mbuf_pool.specs.Cells.{Head}
use Rattle.mbuf_pool.specs.Store.{mbuf_head}
use Rattle.mbuf_chain.specs.Inside.Cells.{entry_from, with_segment}
use Rattle.mbuf_chain.proofs.Heads.{Resized, shown_at, resized}
use Rattle.mbuf_chain.proofs.data.resize.Goals as goal
use Rattle.mbuf_chain.proofs.data.resize.Goals.{After-change_head}

pub head-head-requires : goal.head-head-requires
head-head-requires c = (shown_at c.requires.place).out

pub change_head-requires-clause-out : goal.change_head-requires-clause-out
change_head-requires-clause-out c = (shown_at c.requires.place).out

-- the mbuf has its new part, and the total of the chain isn't changed yet
changed : (c : After-change_head)
    → Resized c.args.store.now c.change_head.new.self c.args.first c.args.len c.head-head.result.len c.args.at.index
    (entry_from c.args.store.now c.args.at.cell
    (with_segment (mbuf_head c.args.store.now c.args.at.cell) c.args.start c.args.len))
changed c =
    resized c.args.store.now c.change_head.new.self c.args.first c.args.len c.head-head.result.len c.args.start
    c.args.len c.args.at c.requires.place c.change_head.ensures.change c.change_head.ensures.store c.requires.low
    c.requires.high (omega (arith, ap (λ (h : Head). h.len) c.head-head.ensures.value))

pub set_total-requires-clause-off : goal.set_total-requires-clause-off
set_total-requires-clause-off c = (changed (goal.at.set_total-requires-clause-off c).After-change_head).off

pub set_total-requires-clause-live : goal.set_total-requires-clause-live
set_total-requires-clause-live c = (changed (goal.at.set_total-requires-clause-live c).After-change_head).live

pub set_total-requires-clause-few : goal.set_total-requires-clause-few
set_total-requires-clause-few c =
    omega (
      arith,
      (shown_at c.requires.place).small,
      ap (λ (h : Head). h.len) c.head-head.ensures.value,
    )

pub returns : goal.returns
returns c =
    record {
      pool = c.set_total.ensures.pool;
      change = c.set_total.ensures.same ∙ (changed (goal.at.returns c).After-change_head).map_is;
    }
