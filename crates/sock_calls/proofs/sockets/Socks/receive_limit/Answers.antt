use Rattle.std.proofs.Common.{◌≡◌, ◌∙◌, subst}
use Rattle.sock_calls.specs.Questions.{receive_limit_at}
use Rattle.sock_calls.specs.Sockets.{SocksView, from_three, queues_of, with_sockets}
use Rattle.sock_calls.proofs.Asked.{block_limited}
use Rattle.sock_calls.proofs.sockets.Socks.receive_limit.Goals as goal

pub returns : goal.returns
returns c = λ p rest.
    subst (λ (v : SocksView). c.limit_of.result ≡ receive_limit_at c.args.fd (with_sockets p v rest)) c.self.view_is
    (c.limit_of.ensures ∙ block_limited (queues_of p (from_three c.self.inside.parts.queues)) c.self.inside.parts.pcbs
    c.args.fd rest)
