use Rattle.std.proofs.Common.{None, subst}
use Rattle.pcb_table.specs.Table.{Table}
use Rattle.pcb_table.specs.Inside.Search.{IsFreePort}
use Rattle.pcb_table.specs.Found.{ChoosesNext}
use Rattle.pcb_table.proofs.Steps.{next_port, table_of}
use Rattle.pcb_table.proofs.table.Pcbs.next_port.Goals as goal

pub returns : goal.returns
returns c =
    let i = c.self.inside.interface in
    let bs = c.self.inside.blocks in
    let last = c.self.inside.last_port in
    let free : IsFreePort bs last None c.next_free.result = c.next_free.ensures.free in
    subst (λ (t : Table). ChoosesNext t c.next_free.result) c.self.view_is
    (λ rest queues. next_port rest queues (table_of i bs last) None c.next_free.result free)
