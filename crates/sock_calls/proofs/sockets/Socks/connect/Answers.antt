use Rattle.std.proofs.Common.{refl, sym, subst}
use Rattle.flat_model.specs.Machine.Event.{Connect}
use Rattle.flat_model.specs.Machine.Replies.{done_reply}
use Rattle.sock_calls.specs.Sockets.{SocksView, IsSocks, IsCalled, from_three, queues_of}
use Rattle.sock_calls.proofs.Keeping.{keeps_open}
use Rattle.sock_calls.proofs.sockets.Socks.connect.Goals as goal

pub returns : goal.returns
returns c = λ p is.
    let old : SocksView = record { pcbs = c.self.inside.parts.pcbs; queues = from_three c.self.inside.parts.queues } in
    let new : SocksView = record { pcbs = c.connect-done.new.self; queues = from_three c.self.inside.parts.queues } in
    subst (λ (v : SocksView). IsCalled p v (Connect c.args.fd c.args.to) (done_reply c.connect-done.result) new)
    c.self.view_is (record {
      step = λ rest. c.connect-done.ensures.step rest (queues_of p old.queues);
      ready = keeps_open p old new.pcbs (subst (IsSocks p) (sym c.self.view_is) is) c.laws.ensures.apart
          c.connect-done.ensures.descriptors;
      queues = refl;
    })
