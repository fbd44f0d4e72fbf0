use Rattle.std.proofs.Common.{◌≡◌, List, set, ap, sym, subst, ◌∙◌, refl}
use Rattle.pcb_table.specs.declared.block.Block.{Block}
use Rattle.pcb_table.specs.Table.{Table}
use Rattle.pcb_table.specs.Apart.{AreApart}
use Rattle.pcb_table.specs.Inside.Fields.{IsCached, IsInCircle}
use Rattle.pcb_table.specs.Inside.Changed.{bound_block}
use Rattle.pcb_table.specs.Found.{EnsuresPort}
use Rattle.pcb_table.proofs.Keeping.{ensured_keeps}
use Rattle.pcb_table.proofs.Steps.{ensure_port_step, table_of}
use Rattle.pcb_table.proofs.Opened.{set_keeps_open}
use Rattle.pcb_table.proofs.table.Pcbs.ensure_port.Goals as goal
use Rattle.pcb_table.proofs.table.Pcbs.ensure_port.Goals.{After-set_block}

written : (c : After-set_block) → c.set_block.new.self ≡ set c.self.inside.blocks c.located-at.result.index
    (bound_block c.located-at.result.block.local c.port_for-chosen.result.port c.located-at.result.block)
written c = c.set_block.ensures ∙ ap (set c.self.inside.blocks c.located-at.result.index) c.bound_to.ensures

pub invariant_of-self : goal.invariant_of-self
invariant_of-self c =
    let later = c.port_for-chosen.result.last in
    let kept =
    ensured_keeps c.self.inside.blocks c.args.fd c.located-at.result.index c.located-at.result.block c.self.invariant.0
    c.located-at.ensures c.self.inside.last_port later c.port_for-chosen.result.port c.self.inside.cache
    c.port_for-chosen.ensures.port c.self.invariant.1 in
    subst (λ (cs : List Block). AreApart cs × IsCached cs c.self.inside.cache × IsInCircle later)
    (sym (written (goal.at.invariant_of-self c).After-set_block)) (kept.0, kept.1, c.port_for-chosen.ensures.last)

pub returns-clause-port : goal.returns-clause-port
returns-clause-port c =
    let later = c.port_for-chosen.result.last in
    let port = c.port_for-chosen.result.port in
    let new = c.set_block.new.self in
    subst (λ (t : Table). EnsuresPort t c.args.fd port (table_of c.self.inside.interface new later)) c.self.view_is
    (ensure_port_step c.self.inside.interface c.self.inside.blocks c.self.inside.last_port c.args.fd
    c.located-at.result.index c.located-at.result.block c.self.invariant.0 c.located-at.ensures new port later
    c.port_for-chosen.ensures.port (written (goal.at.returns-clause-port c).After-set_block))

pub returns-clause-descriptors : goal.returns-clause-descriptors
returns-clause-descriptors c =
    set_keeps_open c.self.inside.interface c.self.inside.blocks c.set_block.new.self c.self.inside.last_port
    c.port_for-chosen.result.last c.args.fd c.located-at.result.index c.located-at.result.block _ _
    c.located-at.ensures refl (written (goal.at.returns-clause-descriptors c).After-set_block) c.self.view_is
