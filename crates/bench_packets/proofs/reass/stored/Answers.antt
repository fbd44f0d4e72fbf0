use Rattle.bench_packets.proofs.Reassembly.{Came, came, freed}
use Rattle.bench_packets.proofs.reass.stored.Goals as goal
use Rattle.bench_packets.proofs.reass.stored.Goals.{In-Ok}

-- the packet's chain, and the table beside it
there : (c : In-Ok) → Came c.args.pool.now c.from_wire.new.pool c.in-Ok.chain c.args.table.now
there c =
    came c.args.pool.now c.from_wire.new.pool c.in-Ok.chain _ c.args.table.now c.requires.ready
    c.in-Ok.ensures.ok.3.adds

pub returns-in_default-read_head-clause-ready : goal.returns-in_default-read_head-clause-ready
returns-in_default-read_head-clause-ready c =
    let x = there (goal.at.returns-in_default-read_head-clause-ready c).In-Ok in
    freed c.from_wire.new.pool c.free_chain.new.self c.in-Ok.chain c.args.table.now x.ready x.owned c.free_chain.ensures

pub returns-then-total-len-clause-ready : goal.returns-then-total-len-clause-ready
returns-then-total-len-clause-ready c =
    let x = there (goal.at.returns-then-total-len-clause-ready c).In-Ok in
    freed c.from_wire.new.pool c.free_chain-then-total-len.new.self c.in-Ok.chain c.args.table.now x.ready x.owned
    c.free_chain-then-total-len.ensures

pub returns-clause-ready : goal.returns-clause-ready
returns-clause-ready c = (there (goal.at.returns-clause-ready c).In-Ok).ready

pub returns-clause-owned : goal.returns-clause-owned
returns-clause-owned c = (there (goal.at.returns-clause-owned c).In-Ok).owned
