use Rattle.std.proofs.Common.{◌≡◌, List, [], ◌∷◌, ap, sym, subst, ◌∙◌, arith}
use Rattle.flat_model.specs.Machine.Event.{Opened}
use Rattle.pcb_table.specs.declared.block.Block.{Block}
use Rattle.pcb_table.specs.Table.{Table, machine, Queues, OpensOnly}
use Rattle.pcb_table.specs.Apart.{AreApart}
use Rattle.pcb_table.specs.Inside.Fields.{IsCached, IsInCircle}
use Rattle.pcb_table.specs.Inside.Changed.{unbound_block}
use Rattle.flat_model.specs.Machine.Calls.{Opens}
use Rattle.flat_model.specs.Machine.State.{State}
use Rattle.pcb_table.proofs.Finding.{opens}
use Rattle.pcb_table.proofs.Keeping.{apart_open, cached_open}
use Rattle.pcb_table.proofs.Steps.{table_of}
use Rattle.pcb_table.proofs.Opened.{unbound_opens}
use Rattle.pcb_table.proofs.table.Pcbs.open.Goals as goal
use Rattle.pcb_table.proofs.table.Pcbs.open.Goals.{After-insert_first}

written : (c : After-insert_first)
    → c.insert_first.new.self ≡ unbound_block c.lowest_free-fd.result ∷ c.self.inside.blocks
written c = c.insert_first.ensures ∙ ap (λ b. b ∷ c.self.inside.blocks) c.unbound.ensures

pub invariant_of-self : goal.invariant_of-self
invariant_of-self c =
    let bs = c.self.inside.blocks in
    let fd = c.lowest_free-fd.result in
    subst (λ (cs : List Block). AreApart cs × IsCached cs c.self.inside.cache × IsInCircle c.self.inside.last_port)
    (sym (written (goal.at.invariant_of-self c).After-insert_first)) (
      apart_open bs fd c.self.invariant.0 c.lowest_free-fd.ensures.free c.lowest_free-fd.ensures.most,
      cached_open bs (unbound_block fd) c.self.inside.cache c.self.invariant.1,
      c.self.invariant.2,
    )

pub returns-clause-step : goal.returns-clause-step
returns-clause-step c =
    let fd = c.lowest_free-fd.result in
    let new = c.insert_first.new.self in
    subst (λ (t : Table). (rest : State) (queues : Queues) → queues fd ≡ []
    → Opens 64 (machine rest queues t) (Opened fd)
    (machine rest queues (table_of c.self.inside.interface new c.self.inside.last_port))) c.self.view_is
    (opens c.self.inside.interface c.self.inside.blocks new c.self.inside.last_port fd
    (omega (arith, c.len.ensures.value, c.len.ensures.few, c.if-len-eq-SOCKETS.false)) c.lowest_free-fd.ensures.free
    (written (goal.at.returns-clause-step c).After-insert_first))

pub returns-clause-opened : goal.returns-clause-opened
returns-clause-opened c =
    let i = c.self.inside.interface in
    let last = c.self.inside.last_port in
    let fd = c.lowest_free-fd.result in
    subst (λ (t : Table). OpensOnly t fd (table_of i c.insert_first.new.self last)) c.self.view_is
    (subst (λ (cs : List Block). OpensOnly (table_of i c.self.inside.blocks last) fd (table_of i cs last))
    (sym (written (goal.at.returns-clause-opened c).After-insert_first))
    (unbound_opens i c.self.inside.blocks last fd c.lowest_free-fd.ensures.free))
