use Rattle.ip_reass.specs.Table.{IsReady}
use Rattle.protocols_tests.proofs.reassembly.steps.Host.ticks.Given as goal

abbrev pub invariant-ticks : goal.invariant-ticks
invariant-ticks l = IsReady l.self.pool l.self.table
