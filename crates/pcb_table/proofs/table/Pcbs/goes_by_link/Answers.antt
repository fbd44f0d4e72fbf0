use Rattle.std.proofs.Common.{◌≡◌, find, Some, None, Ok, sym, subst, ◌∙◌}
use Rattle.flat_model.specs.Packets.Header.{first_fault}
use Rattle.pcb_table.specs.Table.{Table, block_at}
use Rattle.pcb_table.specs.Apart.{has_fd}
use Rattle.pcb_table.specs.Inside.Search.{block_connect_faults, interface_config}
use Rattle.pcb_table.specs.Found.{ChecksDestination}
use Rattle.pcb_table.proofs.ByLink.{nothing, reached, read_is}
use Rattle.pcb_table.proofs.Finding.{checks_passed}
use Rattle.pcb_table.proofs.table.Pcbs.goes_by_link.Goals as goal

pub returns-clause-checked : goal.returns-clause-checked
returns-clause-checked c = λ positive.
    let i = c.self.inside.interface in
    let bs = c.self.inside.blocks in
    let last = c.self.inside.last_port in
    let b = c.args.block.now in
    let to = c.args.to in
    let at : find (has_fd b.fd) bs ≡ Some b =
    subst (λ (t : Table). block_at b.fd t ≡ Some b) (sym c.self.view_is) c.requires in
    let none : first_fault (block_connect_faults (interface_config i) bs b to) ≡ None =
    sym c.destination_fault-fault.ensures
    ∙ nothing c.destination_fault-fault.result c.is_none.result c.is_none.ensures positive in
    let same = read_is (interface_config i) to (reached (interface_config i) bs b to none) in
    subst (λ (t : Table). ChecksDestination t b.fd to (Ok to)) c.self.view_is
    (checks_passed i bs last b.fd b at to to (sym c.is_some.ensures ∙ c.if-is_some.false) same
    ((λ j. first_fault (block_connect_faults (interface_config i) bs b (sym same j))) ∙ none))
