use Rattle.std.proofs.Common.{◌≡◌, ℕ, List, ◌∙◌, sym, subst}
use Rattle.sockbuf.specs.SockBuf.{SockBufView, IsSockBuf}
use Rattle.sock_calls.specs.Questions.{readable, set_below}
use Rattle.sock_calls.specs.Inside.Asked.{waits_at}
use Rattle.sock_calls.specs.Sockets.{SocksView, IsSocks, queue_at, with_sockets}
use Rattle.sock_calls.proofs.Asked.{all_waiting}
use Rattle.sock_calls.proofs.Frames.{each_from_three}
use Rattle.sock_calls.proofs.sockets.Socks.readable.Goals as goal

pub returns : goal.returns
returns c = λ p rest is.
    let now = subst (IsSocks p) (sym c.self.view_is) is in
    let asked : c.readable.result ≡ set_below (waits_at p c.self.inside.parts.queues) 64 =
    subst (λ (bs : List SockBufView). ((k : ℕ) → IsSockBuf p (queue_at bs k))
    → c.readable.result ≡ set_below (waits_at p bs) 64) c.as_slice.ensures.value (c.readable.ensures p)
    (each_from_three p c.self.inside.parts.queues now.each) in
    subst (λ (v : SocksView). c.readable.result ≡ readable (with_sockets p v rest)) c.self.view_is
    (asked ∙ all_waiting p c.self.inside.parts.queues c.self.inside.parts.pcbs rest now)
