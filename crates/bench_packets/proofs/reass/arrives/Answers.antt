use Rattle.mbuf_chain.proofs.Laws.Owners.{owned_after}
use Rattle.bench_packets.proofs.reass.arrives.Goals as goal

pub made_whole-requires-clause-owned : goal.made_whole-requires-clause-owned
made_whole-requires-clause-owned c = owned_after c.arrive_bytes-arrival.ensures.moves c.requires.ready.table.owned
