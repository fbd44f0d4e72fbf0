use Rattle.ip_reass.specs.Table.{IsReady}
use Rattle.protocols_tests.proofs.reassembly.all_comes_out.Given as goal

abbrev pub invariant-events : goal.invariant-events
invariant-events g l = IsReady l.host.pool l.host.table
