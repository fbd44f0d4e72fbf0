use Rattle.std.proofs.Common.{arith}
use Rattle.net_stack.proofs.traffic.with_range.Goals as goal

pub returns-in-Some-clause-range : goal.returns-in-Some-clause-range
returns-in-Some-clause-range c = record { ip = omega arith; port = omega arith }
