use Rattle.std.proofs.Common.{◌≡◌, ◌+◌, List, drop, subst, sym}
use Rattle.pcb_table.specs.declared.block.Block.{Block}
use Rattle.pcb_table.specs.Inside.Search.{from_port}
use Rattle.pcb_table.proofs.Passed.{from_passed}
use Rattle.pcb_table.proofs.blocks.Blocks.others_from.Goals as goal

pub returns-clause-skipped : goal.returns-clause-skipped
returns-clause-skipped c =
    let port = c.args.port in
    let at = c.args.at in
    let n = c.lanes_before.result in
    let inside = c.self.inside in
    let passes = c.lanes_before.ensures.passes in
    subst (λ (bs : List Block). from_port port (drop (at + n) bs) ≡ from_port port (drop at bs)) c.self.view_is
    (sym (from_passed port inside.blocks.items inside.index.ports at n c.self.invariant.ports passes))
