use Rattle.std.proofs.Common.{◌≡◌, ◌∙◌, subst}
use Rattle.sock_calls.specs.Questions.{socket_name}
use Rattle.sock_calls.specs.Sockets.{SocksView, from_three, queues_of, with_sockets}
use Rattle.sock_calls.proofs.Asked.{block_named}
use Rattle.sock_calls.proofs.sockets.Socks.name.Goals as goal

pub returns : goal.returns
returns c = λ p rest.
    subst (λ (v : SocksView). c.name_of.result ≡ socket_name c.args.fd (with_sockets p v rest)) c.self.view_is
    (c.name_of.ensures ∙ block_named (queues_of p (from_three c.self.inside.parts.queues)) c.self.inside.parts.pcbs
    c.args.fd rest)
