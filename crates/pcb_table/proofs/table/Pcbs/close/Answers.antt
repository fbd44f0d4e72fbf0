use Rattle.std.proofs.Common.{List, Option, ap, sym, subst, ◌∙◌}
use Rattle.std.specs.Prelude.{remove}
use Rattle.flat_model.specs.Machine.Event.{Done, Close}
use Rattle.pcb_table.specs.declared.block.Block.{Block}
use Rattle.pcb_table.specs.declared.block.Connection.{Connection}
use Rattle.pcb_table.specs.Table.{Table, IsCall, ClosesOnly}
use Rattle.pcb_table.specs.Apart.{AreApart}
use Rattle.pcb_table.specs.Inside.Fields.{IsCached, IsInCircle}
use Rattle.pcb_table.proofs.Keeping.{apart_remove, cached_remove}
use Rattle.pcb_table.proofs.Steps.{closed, close_step, table_of}
use Rattle.pcb_table.proofs.Opened.{remove_closes}
use Rattle.pcb_table.proofs.table.Pcbs.close.Goals as goal

pub returns-in_default-clause-step : goal.returns-in_default-clause-step
returns-in_default-clause-step c = λ rest queues.
    closed c.self.inside.interface c.self.inside.blocks c.self.inside.last_port _ _ c.self.view_is c.in_default.ensures
    rest queues _

pub invariant_of-self : goal.invariant_of-self
invariant_of-self c =
    let bs = c.self.inside.blocks in
    let b = c.in-Some.at.block in
    let index = c.in-Some.at.index in
    let at = c.in-Some.ensures in
    let apart = apart_remove bs index b c.self.invariant.0 at.within in
    let cached =
    cached_remove bs index b c.self.inside.cache c.args.fd at.within (ap (λ (d : Block). d.fd) (at.is b) ∙ at.named)
    c.self.invariant.1 in
    subst (λ (cs : List Block). AreApart cs × IsCached cs c.without-self-inside.result
    × IsInCircle c.self.inside.last_port) (sym c.remove_at.ensures) (
      apart,
      subst (λ (k : Option Connection). IsCached (remove bs index) k) (sym c.without-self-inside.ensures) cached,
      c.self.invariant.2,
    )

pub returns-clause-step : goal.returns-clause-step
returns-clause-step c =
    let i = c.self.inside.interface in
    let new = c.remove_at.new.self in
    subst (λ (t : Table). IsCall t (Close c.args.fd) Done (table_of i new c.self.inside.last_port)) c.self.view_is
    (close_step i c.self.inside.blocks c.self.inside.last_port c.args.fd c.in-Some.at.index c.in-Some.at.block
    c.self.invariant.0 c.in-Some.ensures new c.remove_at.ensures)

pub returns-clause-closed : goal.returns-clause-closed
returns-clause-closed c =
    let i = c.self.inside.interface in
    let last = c.self.inside.last_port in
    subst (λ (t : Table). ClosesOnly t c.args.fd (table_of i c.remove_at.new.self last)) c.self.view_is
    (subst (λ (cs : List Block). ClosesOnly (table_of i c.self.inside.blocks last) c.args.fd (table_of i cs last))
    (sym c.remove_at.ensures)
    (remove_closes i c.self.inside.blocks last c.args.fd c.in-Some.at.index c.in-Some.at.block c.self.invariant.0
    c.in-Some.ensures))
