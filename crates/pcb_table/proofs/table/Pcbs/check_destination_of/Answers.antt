use Rattle.std.proofs.Common.{◌≡◌, find, Some, Ok, Err, sym, subst, ◌∙◌}
use Rattle.flat_model.specs.Packets.Header.{first_fault}
use Rattle.pcb_table.specs.Table.{Table, block_at}
use Rattle.pcb_table.specs.Apart.{has_fd}
use Rattle.pcb_table.specs.Inside.Search.{block_connect_faults, interface_config}
use Rattle.flat_model.specs.Machine.Calls.{read_addr}
use Rattle.flat_model.specs.declared.errno.Errno.TheVariants.{IsConnected}
use Rattle.pcb_table.specs.Found.{ChecksDestination}
use Rattle.pcb_table.proofs.Finding.{checks_connected, checks_passed, checks_refused}
use Rattle.pcb_table.proofs.table.Pcbs.check_destination_of.Goals as goal
use Rattle.pcb_table.proofs.table.Pcbs.check_destination_of.Goals.{After-destination_fault, After-read-to}

-- the block is in the table
found : (c : After-read-to) → find (has_fd c.args.block.now.fd) c.self.inside.blocks ≡ Some c.args.block.now
found c =
    let b = c.args.block.now in subst (λ (t : Table). block_at b.fd t ≡ Some b) (sym c.self.view_is) c.requires

-- its faults, with the destination as it was read
faults : (c : After-destination_fault) → first_fault (block_connect_faults (interface_config c.self.inside.interface)
    c.self.inside.blocks c.args.block.now (read_addr (interface_config c.self.inside.interface) c.args.to))
    ≡ c.destination_fault.result
faults c =
    (λ k. first_fault (block_connect_faults (interface_config c.self.inside.interface) c.self.inside.blocks
    c.args.block.now (sym c.read-to.ensures k))) ∙ sym c.destination_fault.ensures

pub returns-then-is_some : goal.returns-then-is_some
returns-then-is_some c =
    let b = c.args.block.now in
    subst (λ (t : Table). ChecksDestination t b.fd c.args.to (Err IsConnected)) c.self.view_is
    (checks_connected c.self.inside.interface c.self.inside.blocks c.self.inside.last_port b.fd b
    (found (goal.at.returns-then-is_some c).After-read-to) c.args.to (sym c.is_some.ensures ∙ c.if-is_some.true))

pub returns-in-Some : goal.returns-in-Some
returns-in-Some c =
    let at = goal.at.returns-in-Some c in
    let b = c.args.block.now in
    subst (λ (t : Table). ChecksDestination t b.fd c.args.to (Err c.in-Some.errno)) c.self.view_is
    (checks_refused c.self.inside.interface c.self.inside.blocks c.self.inside.last_port b.fd b (found at.After-read-to)
    c.args.to c.in-Some.errno (sym c.is_some.ensures ∙ c.if-is_some.false)
    (faults at.After-destination_fault ∙ c.in-Some.is))

pub returns-in-None : goal.returns-in-None
returns-in-None c =
    let at = goal.at.returns-in-None c in
    let b = c.args.block.now in
    subst (λ (t : Table). ChecksDestination t b.fd c.args.to (Ok c.read-to.result)) c.self.view_is
    (checks_passed c.self.inside.interface c.self.inside.blocks c.self.inside.last_port b.fd b (found at.After-read-to)
    c.args.to c.read-to.result (sym c.is_some.ensures ∙ c.if-is_some.false) c.read-to.ensures
    (faults at.After-destination_fault ∙ c.in-None.is))
