use Rattle.ip_reass.specs.Table.{IsReady}
use Rattle.bench_packets.proofs.reass.bsdudp_reassemble.Given as goal

abbrev pub invariant-turns : goal.invariant-turns
invariant-turns l = IsReady l.pool l.table
