use Rattle.std.proofs.Common.{Ok, length, subst}
use Rattle.sock_calls.specs.Outgoing.{sending, IsSent}
use Rattle.sock_calls.specs.Sockets.{SocksView}
use Rattle.sock_calls.proofs.sockets.Socks.sendto.Goals as goal

pub returns-then-send_one : goal.returns-then-send_one
returns-then-send_one c =
    subst (λ (s : SocksView). IsSent c.args.fd c.args.to c.args.bytes.now (sending c.args.pool.now s c.args.net.now)
    (Ok (length c.args.bytes.now)) (sending c.send_one.new.pool s c.send_one.new.net)) c.self.view_is
    (c.send_one.ensures.sent c.if-send_one.true)
