use Rattle.std.proofs.Common.{◌≡◌, ℕ, List, ◌∙◌, sym, ap, subst}
use Rattle.std.specs.Prelude.{Err}
use Rattle.flat_model.specs.declared.errno.Errno.TheVariants.{BadDescriptor}
use Rattle.sockbuf.specs.SockBuf.{SockBufView, IsSockBuf, datagrams}
use Rattle.sock_calls.specs.Questions.{next_datagram, oldest_datagram}
use Rattle.sock_calls.specs.Sockets.{SocksView, IsSocks, from_three, queue_at, queues_of, with_sockets}
use Rattle.sock_calls.proofs.Asked.{next_found, next_refused}
use Rattle.sock_calls.proofs.Frames.{each_from_three}
use Rattle.sock_calls.proofs.Places.{at_three}
use Rattle.sock_calls.proofs.sockets.Socks.next_datagram.Goals as goal

pub next_at-requires-clause-each : goal.next_at-requires-clause-each
next_at-requires-clause-each c =
    subst (λ (bs : List SockBufView). (k : ℕ) → IsSockBuf c.args.pool.now (queue_at bs k))
    (sym c.as_slice.ensures.value)
    (each_from_three c.args.pool.now c.self.inside.parts.queues
    (subst (IsSocks c.args.pool.now) (sym c.self.view_is) c.requires).each)

pub returns-in-Some : goal.returns-in-Some
returns-in-Some c = λ rest.
    subst (λ (v : SocksView). c.next_at.result ≡ next_datagram c.args.fd (with_sockets c.args.pool.now v rest))
    c.self.view_is
    (c.next_at.ensures
    ∙ ap (λ (bs : List SockBufView). oldest_datagram (queues_of c.args.pool.now bs c.place_of.result))
    c.as_slice.ensures.value
    ∙ ap (λ b. oldest_datagram (datagrams c.args.pool.now b))
    (sym (at_three c.self.inside.parts.queues c.place_of.result c.args.fd c.place_of.ensures.value))
    ∙ next_found (queues_of c.args.pool.now (from_three c.self.inside.parts.queues)) c.self.inside.parts.pcbs c.args.fd
    c.in-Some.field-0 rest (sym c.block.ensures.value ∙ c.in-Some.is) c.in-Some.ensures.named)

pub returns-in-None : goal.returns-in-None
returns-in-None c = λ rest.
    subst (λ (v : SocksView). Err BadDescriptor ≡ next_datagram c.args.fd (with_sockets c.args.pool.now v rest))
    c.self.view_is
    (next_refused (queues_of c.args.pool.now (from_three c.self.inside.parts.queues)) c.self.inside.parts.pcbs c.args.fd
    rest (sym c.block.ensures.value ∙ c.in-None.is))
