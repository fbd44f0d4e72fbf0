use Rattle.std.proofs.Common.{◌≡◌, Some, refl, ap, subst, option_map}
use Rattle.std.specs.Prelude.{IsSome}
use Rattle.pcb_table.specs.declared.block.Block.{Block}
use Rattle.pcb_table.specs.Table.{Table, block_at}
use Rattle.pcb_table.specs.Inside.Fields.{IsLocated}
use Rattle.pcb_table.proofs.Places.{located_found}
use Rattle.pcb_table.proofs.Unlimited.{unlimited}
use Rattle.pcb_table.proofs.table.Pcbs.limit.Goals as goal

pub returns-then-is_none_limited : goal.returns-then-is_none_limited
returns-then-is_none_limited c =
    subst (λ (t : Table). IsSome (block_at c.args.fd t)
    → option_map (λ (x : Block). x.receive_limit) (block_at c.args.fd t) ≡ Some 0)
    c.self.view_is
    (unlimited c.args.fd c.self.inside.blocks (c.if-is_none_limited.ensures refl)) c.requires

pub returns-in-None : goal.returns-in-None
returns-in-None c =
    let bs = c.self.inside.blocks in
    let b = c.located.result.block in
    let at : IsLocated c.args.fd bs c.located.result.index b = c.located.ensures in
    subst (λ (t : Table). option_map (λ (x : Block). x.receive_limit) (block_at c.args.fd t) ≡ Some b.receive_limit)
    c.self.view_is
    (ap (option_map (λ (x : Block). x.receive_limit))
    (located_found bs c.args.fd c.located.result.index b c.self.invariant.0 at))
