use Rattle.std.proofs.Common.{◌≡◌, ℕ, List, Option, Some, set, ap, sym, subst, ◌∙◌, is_some, false, refl}
use Rattle.flat_model.specs.Machine.Event.{Done, Connect, Refused}
use Rattle.flat_model.specs.Packets.Header.{first_fault}
use Rattle.pcb_table.specs.declared.block.Block.{Block}
use Rattle.pcb_table.specs.declared.block.Connection.{Connection}
use Rattle.pcb_table.specs.Table.{Table, IsCall, KeepsOpen}
use Rattle.pcb_table.specs.Inside.Search.{GivesPort, block_connect_faults, interface_config, youngest_block}
use Rattle.pcb_table.specs.Apart.{AreApart, plain}
use Rattle.pcb_table.specs.Inside.Fields.{IsCached, IsInCircle, IsLocated}
use Rattle.pcb_table.specs.Inside.Changed.{connected_block, disconnected_block, forgotten}
use Rattle.flat_model.specs.Machine.Calls.{read_addr, source_for}
use Rattle.flat_model.specs.declared.address.Addr.{Addr}
use Rattle.pcb_table.proofs.Keeping.{connected_keeps, disconnected_fd, disconnected_keeps, disconnected_peer, located_after, no_four, unmet_four}
use Rattle.pcb_table.proofs.Steps.{closed, connect_refused, connect_step, table_of}
use Rattle.pcb_table.proofs.Opened.{set_keeps_open}
use Rattle.pcb_table.proofs.table.Pcbs.connect.Goals as goal
use Rattle.pcb_table.proofs.table.Pcbs.connect.Goals.{After-destination_fault, After-set_block, After-set_block-2}

pub returns-in_default-clause-step : goal.returns-in_default-clause-step
returns-in_default-clause-step c = λ rest queues.
    closed c.self.inside.interface c.self.inside.blocks c.self.inside.last_port _ _ c.self.view_is c.in_default.ensures
    rest queues _

-- ---- the block is disconnected
gone : (c : After-set_block) → c.set_block.new.self
    ≡ set c.self.inside.blocks c.in-Some.at.index (disconnected_block c.in-Some.at.block)
gone c = c.set_block.ensures ∙ ap (set c.self.inside.blocks c.in-Some.at.index) c.disconnected-block.ensures

there : (c : After-set_block)
    → IsLocated c.args.fd c.set_block.new.self c.in-Some.at.index (disconnected_block c.in-Some.at.block)
there c =
    let b = c.in-Some.at.block in
    subst (λ (cs : List Block). IsLocated c.args.fd cs c.in-Some.at.index (disconnected_block b)) (sym (gone c))
    (located_after c.self.inside.blocks c.args.fd c.in-Some.at.index b c.self.invariant.0 c.in-Some.ensures
    (disconnected_block b) (disconnected_fd b))

kept : (c : After-set_block) → AreApart c.set_block.new.self
    × IsCached c.set_block.new.self c.without-self-inside.result
kept c =
    let is = disconnected_keeps c.self.inside.blocks c.args.fd c.in-Some.at.index c.in-Some.at.block c.self.invariant.0
    c.in-Some.ensures c.self.inside.cache c.self.invariant.1 in (
      subst AreApart (sym (gone c)) is.0,
      subst (λ (k : Option Connection). IsCached c.set_block.new.self k) (sym c.without-self-inside.ensures)
          (subst (λ (cs : List Block). IsCached cs (forgotten c.args.fd c.self.inside.cache)) (sym (gone c)) is.1),
    )

-- its faults, with the destination as it was read
faults : (c : After-destination_fault)
    → first_fault (block_connect_faults (interface_config c.self.inside.interface) c.set_block.new.self
    (disconnected_block c.in-Some.at.block) (read_addr (interface_config c.self.inside.interface) c.args.address))
    ≡ c.destination_fault.result
faults c =
    (λ k. first_fault (block_connect_faults (interface_config c.self.inside.interface) c.set_block.new.self
    (sym c.disconnected-block.ensures k) (sym c.read-to.ensures k))) ∙ sym c.destination_fault.ensures

opens : (c : After-set_block) → KeepsOpen
    (table_of c.self.inside.interface c.self.inside.blocks c.self.inside.last_port)
    (table_of c.self.inside.interface c.set_block.new.self c.self.inside.last_port)
opens c =
    set_keeps_open c.self.inside.interface c.self.inside.blocks c.set_block.new.self c.self.inside.last_port
    c.self.inside.last_port c.args.fd c.in-Some.at.index c.in-Some.at.block _ _ c.in-Some.ensures
    (disconnected_fd c.in-Some.at.block) (gone c) refl

-- ---- and then connected
source_is : (c : After-set_block-2) → c.source-source.result
    ≡ source_for (interface_config c.self.inside.interface) (plain (disconnected_block c.in-Some.at.block))
    (read_addr (interface_config c.self.inside.interface) c.args.address).ip
source_is c =
    c.source-source.ensures ∙ (λ k. source_for (interface_config c.self.inside.interface)
    (plain (c.disconnected-block.ensures k)) (c.read-to.ensures k).ip)

given : (c : After-set_block-2) → GivesPort c.set_block.new.self c.self.inside.last_port
    (disconnected_block c.in-Some.at.block).local (disconnected_block c.in-Some.at.block).port
    c.port_for-chosen.result.port c.port_for-chosen.result.last
given c =
    subst (λ (d : Block). GivesPort c.set_block.new.self c.self.inside.last_port d.local d.port
    c.port_for-chosen.result.port c.port_for-chosen.result.last) c.disconnected-block.ensures
    c.port_for-chosen.ensures.port

written : (c : After-set_block-2) → c.set_block-2.new.self
    ≡ set c.set_block.new.self c.in-Some.at.index (connected_block c.source-source.result c.port_for-chosen.result.port
    (read_addr (interface_config c.self.inside.interface) c.args.address) (disconnected_block c.in-Some.at.block))
written c =
    c.set_block-2.ensures ∙ ap (set c.set_block.new.self c.in-Some.at.index)
    (c.connected_to.ensures ∙ (λ k. connected_block c.source-source.result c.port_for-chosen.result.port
    (c.read-to.ensures k) (c.disconnected-block.ensures k)))

-- ---- if the connect fails, the block is disconnected
pub invariant_of-self : goal.invariant_of-self
invariant_of-self c =
    let is = kept (goal.at.invariant_of-self c).After-set_block in
    (is.0, is.1, c.self.invariant.2)

pub returns-in-Some-destination_fault-clause-step : goal.returns-in-Some-destination_fault-clause-step
returns-in-Some-destination_fault-clause-step c =
    let at = goal.at.returns-in-Some-destination_fault-clause-step c in
    let errno = c.in-Some-destination_fault.errno in
    subst (λ (t : Table). IsCall t (Connect c.args.fd c.args.address) (Refused errno)
    (table_of c.self.inside.interface c.set_block.new.self c.self.inside.last_port)) c.self.view_is
    (connect_refused c.self.inside.interface c.self.inside.blocks c.self.inside.last_port c.args.fd c.in-Some.at.index
    c.in-Some.at.block c.self.invariant.0 c.in-Some.ensures c.set_block.new.self c.args.address errno
    (gone at.After-set_block) (faults at.After-destination_fault ∙ c.in-Some-destination_fault.is))

pub invariant_of-self-2 : goal.invariant_of-self-2
invariant_of-self-2 c =
    let at = goal.at.invariant_of-self-2 c in
    let i = c.self.inside.interface in
    let last = c.self.inside.last_port in
    let index = c.in-Some.at.index in
    let me : Block = disconnected_block c.in-Some.at.block in
    let left = c.set_block.new.self in
    let to : Addr = read_addr (interface_config i) c.args.address in
    let source = c.source-source.result in
    let port = c.port_for-chosen.result.port in
    let later = c.port_for-chosen.result.last in
    let is = kept at.After-set_block in
    let unmet =
    subst (λ (k : ℕ). is_some (youngest_block 0 (record { local = Some k; port = me.port; peer = Some to }) left)
    ≡ false) (sym (source_is at.After-set_block-2))
    (unmet_four (interface_config i) left me to
    (faults at.After-destination_fault ∙ c.in_default-destination_fault.is)) in
    let free = no_four left last me.local me.port later _ source port to (source_is at.After-set_block-2) unmet
    (given at.After-set_block-2) in
    let done =
    connected_keeps left c.args.fd index me is.0 (there at.After-set_block) source port to c.without-self-inside.result
    (disconnected_peer c.in-Some.at.block) free is.1 in
    subst (λ (cs : List Block). AreApart cs × IsCached cs c.without-self-inside.result × IsInCircle later)
    (sym (written at.After-set_block-2)) (done.0, done.1, c.port_for-chosen.ensures.last)

pub returns-clause-step : goal.returns-clause-step
returns-clause-step c =
    let at = goal.at.returns-clause-step c in
    subst (λ (t : Table). IsCall t (Connect c.args.fd c.args.address) Done
    (table_of c.self.inside.interface c.set_block-2.new.self c.port_for-chosen.result.last)) c.self.view_is
    (connect_step c.self.inside.interface c.self.inside.blocks c.self.inside.last_port c.args.fd c.in-Some.at.index
    c.in-Some.at.block c.self.invariant.0 c.in-Some.ensures c.set_block.new.self c.set_block-2.new.self c.args.address
    c.source-source.result c.port_for-chosen.result.port c.port_for-chosen.result.last (gone at.After-set_block)
    (faults at.After-destination_fault ∙ c.in_default-destination_fault.is) (source_is at.After-set_block-2)
    (given at.After-set_block-2) (kept at.After-set_block).0 (there at.After-set_block) (written at.After-set_block-2))

pub returns-in-Some-destination_fault-clause-descriptors : goal.returns-in-Some-destination_fault-clause-descriptors
returns-in-Some-destination_fault-clause-descriptors c =
    subst (λ (t : Table). KeepsOpen t (table_of c.self.inside.interface c.set_block.new.self c.self.inside.last_port))
    c.self.view_is (opens (goal.at.returns-in-Some-destination_fault-clause-descriptors c).After-set_block)

pub returns-clause-descriptors : goal.returns-clause-descriptors
returns-clause-descriptors c =
    let at = goal.at.returns-clause-descriptors c in
    subst (λ (t : Table). KeepsOpen t
    (table_of c.self.inside.interface c.set_block-2.new.self c.port_for-chosen.result.last)) c.self.view_is
    (set_keeps_open c.self.inside.interface c.set_block.new.self c.set_block-2.new.self c.self.inside.last_port
    c.port_for-chosen.result.last c.args.fd c.in-Some.at.index (disconnected_block c.in-Some.at.block) _ _
    (there at.After-set_block) refl (written at.After-set_block-2) refl ∙ opens at.After-set_block)
