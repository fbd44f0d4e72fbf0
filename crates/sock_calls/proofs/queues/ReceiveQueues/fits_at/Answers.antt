use Rattle.std.proofs.Common.{◌<◌, length, ap, sym, subst, ◌∙◌, arith}
use Rattle.flat_model.specs.Sockets.Fits.{fits}
use Rattle.sockbuf.specs.SockBuf.{SockBufView, IsSockBuf, datagrams}
use Rattle.sock_calls.proofs.Places.{named_is}
use Rattle.sock_calls.proofs.queues.ReceiveQueues.fits_at.Goals as goal

pub returns : goal.returns
returns c = λ p each.
    let is = c.deref.ensures.0 in
    let lt : c.place_of.result < length c.deref.result.now =
    omega (arith, c.place_of.ensures.within, c.self.invariant, ap length is) in
    let at = c.index-deref-place_of.is ∙ named_is c.index-deref-place_of.result c.args.fd (is ∙ c.self.view_is) lt
    c.place_of.ensures.value in
    c.fits.ensures p (subst (IsSockBuf p) (sym at) (each c.args.fd))
    ∙ ap (λ (v : SockBufView). fits c.args.limit (datagrams p v) c.args.len c.args.memory) at
