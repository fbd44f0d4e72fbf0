use Rattle.std.proofs.Common.{◌≡◌, List, Option, set, ap, sym, subst, ◌∙◌}
use Rattle.pcb_table.specs.declared.block.Block.{Block}
use Rattle.pcb_table.specs.declared.block.Connection.{Connection}
use Rattle.pcb_table.specs.Table.{Table}
use Rattle.pcb_table.specs.Apart.{AreApart}
use Rattle.pcb_table.specs.Inside.Fields.{IsCached, IsInCircle}
use Rattle.pcb_table.specs.Inside.Changed.{disconnected_block}
use Rattle.flat_model.specs.Machine.Calls.{disconnected}
use Rattle.pcb_table.specs.Found.{Changes}
use Rattle.pcb_table.proofs.Keeping.{disconnected_keeps, disconnected_fd}
use Rattle.pcb_table.proofs.Steps.{disconnect_step, table_of}
use Rattle.pcb_table.proofs.Opened.{set_keeps_open}
use Rattle.pcb_table.proofs.table.Pcbs.disconnect.Goals as goal
use Rattle.pcb_table.proofs.table.Pcbs.disconnect.Goals.{After-set_block}

written : (c : After-set_block) → c.set_block.new.self ≡ set c.self.inside.blocks c.located-at.result.index
    (disconnected_block c.located-at.result.block)
written c = c.set_block.ensures ∙ ap (set c.self.inside.blocks c.located-at.result.index) c.disconnected.ensures

pub invariant_of-self : goal.invariant_of-self
invariant_of-self c =
    let bs = c.self.inside.blocks in
    let b = c.located-at.result.block in
    let index = c.located-at.result.index in
    let kept =
    disconnected_keeps bs c.args.fd index b c.self.invariant.0 c.located-at.ensures c.self.inside.cache
    c.self.invariant.1 in
    subst (λ (cs : List Block). AreApart cs × IsCached cs c.without-self-inside.result
    × IsInCircle c.self.inside.last_port) (sym (written (goal.at.invariant_of-self c).After-set_block)) (
      kept.0,
      subst (λ (k : Option Connection). IsCached (set bs index (disconnected_block b)) k)
          (sym c.without-self-inside.ensures) kept.1,
      c.self.invariant.2,
    )

pub returns-clause-step : goal.returns-clause-step
returns-clause-step c =
    let new = c.set_block.new.self in
    subst (λ (t : Table). Changes t c.args.fd disconnected
    (table_of c.self.inside.interface new c.self.inside.last_port)) c.self.view_is
    (disconnect_step c.self.inside.interface c.self.inside.blocks c.self.inside.last_port c.args.fd
    c.located-at.result.index c.located-at.result.block c.self.invariant.0 c.located-at.ensures new
    (written (goal.at.returns-clause-step c).After-set_block))

pub returns-clause-descriptors : goal.returns-clause-descriptors
returns-clause-descriptors c =
    set_keeps_open c.self.inside.interface c.self.inside.blocks c.set_block.new.self c.self.inside.last_port
    c.self.inside.last_port c.args.fd c.located-at.result.index c.located-at.result.block _ _ c.located-at.ensures
    (disconnected_fd c.located-at.result.block)
    (written (goal.at.returns-clause-descriptors c).After-set_block) c.self.view_is
