use Rattle.std.proofs.Common.{◌≡◌, List, ◌∙◌, sym, ap, subst}
use Rattle.std.specs.Prelude.{Ok, Err}
use Rattle.flat_model.specs.Sockets.Fits as queue
use Rattle.flat_model.specs.declared.errno.Errno.TheVariants.{BadDescriptor}
use Rattle.sockbuf.specs.SockBuf.{SockBufView, IsSockBuf, datagrams}
use Rattle.sock_calls.specs.Questions.{memory_queued_at}
use Rattle.sock_calls.specs.Sockets.{SocksView, IsSocks, from_three, queue_at, queues_of, with_sockets}
use Rattle.sock_calls.proofs.Asked.{memory_found, memory_refused}
use Rattle.sock_calls.proofs.Frames.{each_from_three}
use Rattle.sock_calls.proofs.Places.{at_three}
use Rattle.sock_calls.proofs.sockets.Socks.memory_queued.Goals as goal

pub returns-in-Some : goal.returns-in-Some
returns-in-Some c = λ p rest is.
    let now = subst (IsSocks p) (sym c.self.view_is) is in
    subst (λ (v : SocksView). Ok c.memory_at.result ≡ memory_queued_at c.args.fd (with_sockets p v rest)) c.self.view_is
    (ap Ok (subst (λ (bs : List SockBufView). IsSockBuf p (queue_at bs c.place_of.result)
    → c.memory_at.result ≡ queue.memory_queued (queues_of p bs c.place_of.result)) c.as_slice.ensures.value
    (c.memory_at.ensures p)
    (each_from_three p c.self.inside.parts.queues now.each c.place_of.result)
    ∙ ap (λ b. queue.memory_queued (datagrams p b))
    (sym (at_three c.self.inside.parts.queues c.place_of.result c.args.fd c.place_of.ensures.value)))
    ∙ memory_found (queues_of p (from_three c.self.inside.parts.queues)) c.self.inside.parts.pcbs c.args.fd
    c.in-Some.field-0 rest (sym c.block.ensures.value ∙ c.in-Some.is) c.in-Some.ensures.named)

pub returns-in-None : goal.returns-in-None
returns-in-None c = λ p rest is.
    subst (λ (v : SocksView). Err BadDescriptor ≡ memory_queued_at c.args.fd (with_sockets p v rest)) c.self.view_is
    (memory_refused (queues_of p (from_three c.self.inside.parts.queues)) c.self.inside.parts.pcbs c.args.fd rest
    (sym c.block.ensures.value ∙ c.in-None.is))
