use Rattle.ip_reass.specs.Table.{IsReady}
use Rattle.bench_packets.proofs.reass.bsdudp_new_keys.Given as goal

abbrev pub invariant-held : goal.invariant-held
invariant-held l = IsReady l.pool l.table

abbrev pub invariant-turns : goal.invariant-turns
invariant-turns l = IsReady l.pool l.table
