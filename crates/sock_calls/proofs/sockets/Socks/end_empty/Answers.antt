use Rattle.std.proofs.Common.{sym, subst}
use Rattle.sock_calls.specs.Sockets.{SocksView, AreEmpty}
use Rattle.sock_calls.proofs.sockets.Socks.end_empty.Goals as goal

pub end_empty-requires : goal.end_empty-requires
end_empty-requires c = (subst (λ (v : SocksView). AreEmpty v.queues) (sym c.self.view_is) c.requires).1.1.1
