use Rattle.pcb_table.proofs.Finding.{ensured_same}
use Rattle.pcb_table.proofs.Steps.{interface_of}
use Rattle.pcb_table.proofs.table.Pcbs.port_of.Goals as goal

pub returns-in-Some-clause-same : goal.returns-in-Some-clause-same
returns-in-Some-clause-same c =
    let t = c.args.self.now in
    let b = c.args.block.now in
    ensured_same (interface_of t) t.blocks t.last_port b.fd b c.requires c.in-Some.port c.laws.ensures.apart
    c.in-Some.is
