use Rattle.std.proofs.Common.{◌≡◌, Some, subst}
use Rattle.pcb_table.specs.Table.{Table, block_at}
use Rattle.pcb_table.proofs.Places.{located_found}
use Rattle.pcb_table.proofs.table.Pcbs.indexed.Goals as goal

pub returns : goal.returns
returns c =
    let b = c.in_ok-block.block.now in
    subst (λ (t : Table). block_at c.args.fd t ≡ Some b) c.self.view_is
    (located_found c.self.inside.blocks c.args.fd c.in_ok-block.field-0-0 b c.self.invariant.0 c.in_ok-block.ensures)
