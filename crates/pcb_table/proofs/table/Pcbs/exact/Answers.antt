use Rattle.std.proofs.Common.{Some, None, ap, sym, subst, ◌∙◌}
use Rattle.std.specs.Prelude.{option_copied}
use Rattle.pcb_table.specs.Table.{Table}
use Rattle.flat_model.specs.Sockets.Lookup as flat
use Rattle.pcb_table.specs.Found.{Finds}
use Rattle.pcb_table.proofs.Finding.{exact_none, exact_some}
use Rattle.pcb_table.proofs.Places.{found_range}
use Rattle.pcb_table.proofs.table.Pcbs.exact.Goals as goal

pub returns-in-None-clause-found : goal.returns-in-None-clause-found
returns-in-None-clause-found c =
    subst (λ (t : Table). Finds (flat.exact c.args.key) t None) c.self.view_is
    (exact_none c.self.inside.interface c.self.inside.blocks c.self.inside.last_port c.args.key
    (sym c.exact.ensures ∙ ap option_copied c.in-None.is))

pub returns-in-Some-clause-found : goal.returns-in-Some-clause-found
returns-in-Some-clause-found c =
    subst (λ (t : Table). Finds (flat.exact c.args.key) t (Some c.in-Some.block.now.fd)) c.self.view_is
    (exact_some c.self.inside.interface c.self.inside.blocks c.self.inside.last_port c.args.key c.in-Some.block.now
    c.self.invariant.0
    (sym c.exact.ensures ∙ ap option_copied c.in-Some.is))

pub returns-in-Some-clause-range : goal.returns-in-Some-clause-range
returns-in-Some-clause-range c =
    found_range _ c.self.inside.blocks c.in-Some.block.now c.self.invariant.0
    (sym c.exact.ensures ∙ ap option_copied c.in-Some.is)
