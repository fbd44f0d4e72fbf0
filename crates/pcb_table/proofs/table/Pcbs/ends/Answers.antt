use Rattle.std.proofs.Common.{◌≡◌, Some, ap, sym, subst, ◌∙◌, option_map}
use Rattle.flat_model.specs.declared.address.Addr.{Addr}
use Rattle.pcb_table.specs.Table.{Table, block_at, local_of, peer_of}
use Rattle.pcb_table.specs.Inside.Fields.{IsLocated}
use Rattle.pcb_table.proofs.Places.{located_found}
use Rattle.pcb_table.proofs.table.Pcbs.ends.Goals as goal

pub returns-clause-local : goal.returns-clause-local
returns-clause-local c =
    let bs = c.self.inside.blocks in
    let b = c.located.result.block in
    let at : IsLocated c.args.fd bs c.located.result.index b = c.located.ensures in
    let made : Addr = record { ip = c.unwrap_or.result; port = c.unwrap_or-2.result } in
    let same : local_of b ≡ made = λ k. record { ip = sym c.unwrap_or.ensures k; port = sym c.unwrap_or-2.ensures k } in
    subst (λ (t : Table). option_map local_of (block_at c.args.fd t) ≡ Some made) c.self.view_is
    (ap (option_map local_of) (located_found bs c.args.fd c.located.result.index b c.self.invariant.0 at)
    ∙ ap Some same)

pub returns-clause-foreign : goal.returns-clause-foreign
returns-clause-foreign c =
    let bs = c.self.inside.blocks in
    let b = c.located.result.block in
    let at : IsLocated c.args.fd bs c.located.result.index b = c.located.ensures in
    subst (λ (t : Table). option_map peer_of (block_at c.args.fd t) ≡ Some c.unwrap_or-3.result) c.self.view_is
    (ap (option_map peer_of) (located_found bs c.args.fd c.located.result.index b c.self.invariant.0 at)
    ∙ ap Some (sym c.unwrap_or-3.ensures))
