use Rattle.std.proofs.Common.{refl, sym, subst}
use Rattle.flat_model.specs.Machine.Event.{Set_limit}
use Rattle.flat_model.specs.Machine.Replies.{done_reply}
use Rattle.sock_calls.specs.Sockets.{SocksView, IsSocks, IsCalled, from_three, queues_of}
use Rattle.sock_calls.proofs.Keeping.{keeps_open}
use Rattle.sock_calls.proofs.sockets.Socks.set_limit.Goals as goal

pub returns : goal.returns
returns c = λ p is.
    let old : SocksView = record { pcbs = c.self.inside.parts.pcbs; queues = from_three c.self.inside.parts.queues } in
    let new : SocksView = record {
      pcbs = c.set_limit-done.new.self;
      queues = from_three c.self.inside.parts.queues;
    } in
    subst (λ (v : SocksView). IsCalled p v (Set_limit c.args.fd c.args.limit)
    (done_reply c.set_limit-done.result) new) c.self.view_is (record {
      step = λ rest. c.set_limit-done.ensures.step rest (queues_of p old.queues);
      ready = keeps_open p old new.pcbs (subst (IsSocks p) (sym c.self.view_is) is) c.laws.ensures.apart
          c.set_limit-done.ensures.descriptors;
      queues = refl;
    })
