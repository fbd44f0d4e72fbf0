use Rattle.std.proofs.Common.{◌≤◌}
use Rattle.bench_stack.proofs.bsdudp_send_to_itself.Given as goal

abbrev pub invariant-turns : goal.invariant-turns
invariant-turns l = l.well ≤ l.counter
