use Rattle.std.proofs.Common.{◌≡◌, ℕ, List, Option, None, set, ap, sym, subst, ◌∙◌, refl}
use Rattle.flat_model.specs.Machine.Event.{Done, Bind, Refused}
use Rattle.flat_model.specs.Packets.Header.{first_fault}
use Rattle.pcb_table.specs.declared.block.Block.{Block}
use Rattle.pcb_table.specs.Table.{Table, IsCall}
use Rattle.pcb_table.specs.Inside.Search.{GivesPort, block_bind_faults, interface_config}
use Rattle.pcb_table.specs.Apart.{AreApart}
use Rattle.pcb_table.specs.Inside.Fields.{IsCached, IsInCircle}
use Rattle.pcb_table.specs.Inside.Changed.{bound_block}
use Rattle.flat_model.specs.Machine.Calls.{unless_zero}
use Rattle.pcb_table.proofs.Keeping.{bound_keeps, unbound_port}
use Rattle.pcb_table.proofs.Steps.{closed, bind_refused, bind_step, table_of}
use Rattle.pcb_table.proofs.Opened.{set_keeps_open}
use Rattle.pcb_table.proofs.table.Pcbs.bind.Goals as goal
use Rattle.pcb_table.proofs.table.Pcbs.bind.Goals.{After-set_block}

pub returns-in_default-clause-step : goal.returns-in_default-clause-step
returns-in_default-clause-step c = λ rest queues.
    closed c.self.inside.interface c.self.inside.blocks c.self.inside.last_port _ _ c.self.view_is c.in_default.ensures
    rest queues _

pub returns-in-Some-fault-clause-step : goal.returns-in-Some-fault-clause-step
returns-in-Some-fault-clause-step c =
    subst (λ (t : Table). IsCall t (Bind c.args.fd c.args.address) (Refused c.in-Some-fault.errno) t) c.self.view_is
    (bind_refused c.self.inside.interface c.self.inside.blocks c.self.inside.last_port c.args.fd c.in-Some.at.index
    c.in-Some.at.block c.self.invariant.0 c.in-Some.ensures c.args.address c.in-Some-fault.errno
    (sym c.bind_fault-fault.ensures ∙ c.in-Some-fault.is))

-- ---- the block is written
no_fault : (c : After-set_block) → first_fault (block_bind_faults (interface_config c.self.inside.interface)
    c.self.inside.blocks c.in-Some.at.block c.args.address) ≡ None
no_fault c = sym c.bind_fault-fault.ensures ∙ c.in_default-fault.is

written : (c : After-set_block) → c.set_block.new.self ≡ set c.self.inside.blocks c.in-Some.at.index
    (bound_block c.unless_zero-local.result c.port_for-chosen.result.port c.in-Some.at.block)
written c = c.set_block.ensures ∙ ap (set c.self.inside.blocks c.in-Some.at.index) c.bound_to.ensures

pub invariant_of-self : goal.invariant_of-self
invariant_of-self c =
    let at = (goal.at.invariant_of-self c).After-set_block in
    let bs = c.self.inside.blocks in
    let b = c.in-Some.at.block in
    let kept =
    bound_keeps bs c.args.fd c.in-Some.at.index b c.self.invariant.0 c.in-Some.ensures c.unless_zero-local.result
    c.port_for-chosen.result.port c.self.inside.cache
    (unbound_port (interface_config c.self.inside.interface) bs b c.args.address (no_fault at)) c.self.invariant.1 in
    subst (λ (cs : List Block). AreApart cs × IsCached cs c.self.inside.cache
    × IsInCircle c.port_for-chosen.result.last) (sym (written at)) (kept.0, kept.1, c.port_for-chosen.ensures.last)

pub returns-clause-step : goal.returns-clause-step
returns-clause-step c =
    let at = (goal.at.returns-clause-step c).After-set_block in
    let bs = c.self.inside.blocks in
    let last = c.self.inside.last_port in
    let b = c.in-Some.at.block in
    let a = c.args.address in
    let later = c.port_for-chosen.result.last in
    let port = c.port_for-chosen.result.port in
    let given : GivesPort bs last (unless_zero a.ip) (unless_zero a.port) port later =
    subst (λ (o : Option ℕ). GivesPort bs last (unless_zero a.ip) o port later) c.port_unless_zero.ensures
    (subst (λ (o : Option ℕ). GivesPort bs last o c.port_unless_zero.result port later) c.unless_zero-local.ensures
    (c.port_for-chosen.ensures.port)) in
    subst (λ (t : Table). IsCall t (Bind c.args.fd a) Done
    (table_of c.self.inside.interface c.set_block.new.self later)) c.self.view_is
    (bind_step c.self.inside.interface bs last c.args.fd c.in-Some.at.index b c.self.invariant.0 c.in-Some.ensures
    c.set_block.new.self a port later (no_fault at) given
    (written at ∙ ap (λ (o : Option ℕ). set bs c.in-Some.at.index (bound_block o port b)) c.unless_zero-local.ensures))

pub returns-clause-descriptors : goal.returns-clause-descriptors
returns-clause-descriptors c =
    set_keeps_open c.self.inside.interface c.self.inside.blocks c.set_block.new.self c.self.inside.last_port
    c.port_for-chosen.result.last c.args.fd c.in-Some.at.index c.in-Some.at.block _ _ c.in-Some.ensures refl
    (written (goal.at.returns-clause-descriptors c).After-set_block) c.self.view_is
