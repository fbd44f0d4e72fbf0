use Rattle.std.proofs.Common.{◌≡◌, ℕ, List, None, ◌∙◌, sym, ap, subst}
use Rattle.mbuf_chain.specs.Heads.{nth_heads}
use Rattle.sockbuf.specs.SockBuf.{SockBufView, IsSockBuf, chains_of}
use Rattle.sock_calls.specs.Sockets.{SocksView, IsSocks, from_three, queue_at}
use Rattle.sock_calls.proofs.Frames.{each_from_three, none_there}
use Rattle.sock_calls.proofs.Places.{at_three}
use Rattle.sock_calls.proofs.sockets.Socks.heads.Goals as goal

pub heads_at-requires-clause-each : goal.heads_at-requires-clause-each
heads_at-requires-clause-each c =
    subst (λ (bs : List SockBufView). (k : ℕ) → IsSockBuf c.args.pool.now (queue_at bs k))
    (sym c.as_slice.ensures.value)
    (each_from_three c.args.pool.now c.self.inside.parts.queues
    (subst (IsSocks c.args.pool.now) (sym c.self.view_is) c.requires).each)

pub returns-in-Some : goal.returns-in-Some
returns-in-Some c =
    let p = c.args.pool.now in
    subst (λ (v : SocksView). c.heads_at.result ≡ nth_heads p (chains_of p (queue_at v.queues c.args.fd)) c.args.i)
    c.self.view_is
    (c.heads_at.ensures
    ∙ ap (λ (bs : List SockBufView). nth_heads p (chains_of p (queue_at bs c.place_of.result)) c.args.i)
    c.as_slice.ensures.value
    ∙ ap (λ (b : SockBufView). nth_heads p (chains_of p b) c.args.i)
    (sym (at_three c.self.inside.parts.queues c.place_of.result c.args.fd c.place_of.ensures.value)))

pub returns-in-None : goal.returns-in-None
returns-in-None c =
    let p = c.args.pool.now in
    let now = subst (IsSocks p) (sym c.self.view_is) c.requires in
    subst (λ (v : SocksView). ◌≡◌ {A = _} None (nth_heads p (chains_of p (queue_at v.queues c.args.fd)) c.args.i))
    c.self.view_is
    (ap (λ (chains : List ℕ). nth_heads p chains c.args.i)
    (sym (none_there p (queue_at (from_three c.self.inside.parts.queues) c.args.fd) (now.each c.args.fd)
    (now.closed c.args.fd (sym c.block.ensures.value ∙ c.in-None.is)))))
