use Rattle.std.proofs.Common.{◌++◌, subst}
use Rattle.mbuf_chain.specs.Owners.{IsOwned}
use Rattle.ip_reass.specs.Arrivals.{in_hand}
use Rattle.ip_reass.specs.Table.{held_all}
use Rattle.ip_reass.specs.declared.arrival.Arrival.{Arrival}
use Rattle.bench_packets.proofs.Reassembly.{freed}
use Rattle.bench_packets.proofs.reass.made_whole.Goals as goal

pub returns-in-Whole : goal.returns-in-Whole
returns-in-Whole c =
    freed c.args.pool.now c.free_chain.new.self c.in-Whole.chain c.args.table.now c.requires.ready
    (subst (λ (x : Arrival). IsOwned c.args.pool.now (in_hand x ++ held_all c.args.pool.now c.args.table.now.datagrams))
    c.in-Whole.is c.requires.owned) c.free_chain.ensures
