use Rattle.ip_out.specs.Inside.{IsMoving}
use Rattle.ip_out.proofs.queue.move_packets.Given as goal

abbrev pub invariant-packets : goal.invariant-packets
invariant-packets l = IsMoving l.fn.pool l.fn.train l.fn.more l.pool l.train l.rest

abbrev pub decreases-packets : goal.decreases-packets
decreases-packets l = l.rest.len
