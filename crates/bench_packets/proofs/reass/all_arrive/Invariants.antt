use Rattle.ip_reass.specs.Table.{IsReady}
use Rattle.bench_packets.proofs.reass.all_arrive.Given as goal

abbrev pub invariant-packets : goal.invariant-packets
invariant-packets l = IsReady l.pool l.table
