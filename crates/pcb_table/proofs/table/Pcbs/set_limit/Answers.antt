use Rattle.std.proofs.Common.{◌≡◌, List, set, ap, sym, subst, ◌∙◌}
use Rattle.flat_model.specs.Machine.Event.{Done, Set_limit}
use Rattle.pcb_table.specs.declared.block.Block.{Block}
use Rattle.pcb_table.specs.Table.{Table, IsCall}
use Rattle.pcb_table.specs.Apart.{AreApart}
use Rattle.pcb_table.specs.Inside.Fields.{IsCached, IsInCircle}
use Rattle.pcb_table.specs.Inside.Changed.{limited_block}
use Rattle.pcb_table.proofs.Keeping.{limit_keeps}
use Rattle.pcb_table.proofs.Steps.{closed, set_limit_step, table_of}
use Rattle.pcb_table.proofs.Opened.{set_keeps_open}
use Rattle.pcb_table.proofs.table.Pcbs.set_limit.Goals as goal
use Rattle.pcb_table.proofs.table.Pcbs.set_limit.Goals.{After-set_block}

pub returns-in_default-clause-step : goal.returns-in_default-clause-step
returns-in_default-clause-step c = λ rest queues.
    closed c.self.inside.interface c.self.inside.blocks c.self.inside.last_port _ _ c.self.view_is c.in_default.ensures
    rest queues _

written : (c : After-set_block) → c.set_block.new.self ≡ set c.self.inside.blocks c.in-Some.at.index
    (limited_block c.args.limit c.in-Some.at.block)
written c = c.set_block.ensures ∙ ap (set c.self.inside.blocks c.in-Some.at.index) c.with_limit.ensures

pub invariant_of-self : goal.invariant_of-self
invariant_of-self c =
    let kept =
    limit_keeps c.self.inside.blocks c.args.fd c.in-Some.at.index c.in-Some.at.block c.self.invariant.0
    c.in-Some.ensures c.args.limit c.self.inside.cache c.self.invariant.1 in
    subst (λ (cs : List Block). AreApart cs × IsCached cs c.self.inside.cache × IsInCircle c.self.inside.last_port)
    (sym (written (goal.at.invariant_of-self c).After-set_block)) (kept.0, kept.1, c.self.invariant.2)

pub returns-clause-step : goal.returns-clause-step
returns-clause-step c =
    let new = c.set_block.new.self in
    subst (λ (t : Table). IsCall t (Set_limit c.args.fd c.args.limit) Done
    (table_of c.self.inside.interface new c.self.inside.last_port)) c.self.view_is
    (set_limit_step c.self.inside.interface c.self.inside.blocks c.self.inside.last_port c.args.fd c.in-Some.at.index
    c.in-Some.at.block c.self.invariant.0 c.in-Some.ensures new c.args.limit
    (written (goal.at.returns-clause-step c).After-set_block))

pub returns-clause-descriptors : goal.returns-clause-descriptors
returns-clause-descriptors c =
    set_keeps_open c.self.inside.interface c.self.inside.blocks c.set_block.new.self c.self.inside.last_port
    c.self.inside.last_port c.args.fd c.in-Some.at.index c.in-Some.at.block _ _ c.in-Some.ensures
    (λ i. c.in-Some.at.block.fd)
    (written (goal.at.returns-clause-descriptors c).After-set_block) c.self.view_is
