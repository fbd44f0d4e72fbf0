use Rattle.std.proofs.Common.{refl, ap}
use Rattle.pcb_table.specs.Table.{Table}
use Rattle.sock_calls.proofs.Keeping.{no_sockets}
use Rattle.sock_calls.proofs.Places.{none_wait}
use Rattle.sock_calls.proofs.sockets.Socks.boot.Goals as goal

pub returns-clause-ready : goal.returns-clause-ready
returns-clause-ready c = λ p. no_sockets p c.new.result c.new-2.result (ap (λ (t : Table). t.blocks) c.new.ensures)
    c.new-2.ensures.empty c.new-2.ensures.places

pub returns-clause-empty : goal.returns-clause-empty
returns-clause-empty c = (refl, (refl, (refl, none_wait c.new-2.result c.new-2.ensures.empty)))
