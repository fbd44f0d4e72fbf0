use Rattle.std.proofs.Common.{◌≡◌, Some, sym, subst}
use Rattle.pcb_table.specs.Table.{Table, block_at}
use Rattle.pcb_table.proofs.Places.{found_in_range, located_found}
use Rattle.pcb_table.proofs.table.Pcbs.block.Goals as goal

pub returns-in-Some-clause-value : goal.returns-in-Some-clause-value
returns-in-Some-clause-value c =
    let bs = c.self.inside.blocks in
    let at = c.in-Some.at in
    subst (λ (t : Table). Some at.block ≡ block_at c.args.fd t) c.self.view_is
    (sym (located_found bs c.args.fd at.index at.block c.self.invariant.0 c.in-Some.ensures))

pub returns-in-Some-clause-range : goal.returns-in-Some-clause-range
returns-in-Some-clause-range c =
    let bs = c.self.inside.blocks in
    let at = c.in-Some.at in
    found_in_range c.args.fd bs (Some at.block) c.self.invariant.0
    (sym (located_found bs c.args.fd at.index at.block c.self.invariant.0 c.in-Some.ensures))
