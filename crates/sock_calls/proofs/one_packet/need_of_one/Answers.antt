use Rattle.std.proofs.Common.{arith}
use Rattle.sock_calls.proofs.OnePacket.{large_need, small_need}
use Rattle.sock_calls.proofs.one_packet.need_of_one.Goals as goal

pub returns-then-len-le-MOST_IN_MBUF-clause-need : goal.returns-then-len-le-MOST_IN_MBUF-clause-need
returns-then-len-le-MOST_IN_MBUF-clause-need c = small_need c.args.len c.args.mtu (omega arith) (omega arith)

pub returns-clause-need : goal.returns-clause-need
returns-clause-need c = large_need c.args.len c.args.mtu (omega arith) (omega arith) (omega arith)
