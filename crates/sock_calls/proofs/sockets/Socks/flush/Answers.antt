use Rattle.std.proofs.Common.{sym, subst}
use Rattle.sock_calls.specs.Sockets.{IsSocks}
use Rattle.sock_calls.proofs.Frames.{each_from_three}
use Rattle.sock_calls.proofs.sockets.Socks.flush.Goals as goal

pub flush_all-requires-clause-each : goal.flush_all-requires-clause-each
flush_all-requires-clause-each c = each_from_three c.args.pool.now c.self.inside.parts.queues
    (subst (IsSocks c.args.pool.now) (sym c.self.view_is) c.requires).each
