use Rattle.std.proofs.Common.{refl, sym, subst}
use Rattle.flat_model.specs.Machine.Event.{Open}
use Rattle.flat_model.specs.Machine.Replies.{opened_reply}
use Rattle.sock_calls.specs.Sockets.{SocksView, IsSocks, IsCalled, from_three, queues_of}
use Rattle.sock_calls.proofs.Keeping.{keeps_opened, none_waits_there}
use Rattle.sock_calls.proofs.sockets.Socks.socket.Goals as goal

pub returns : goal.returns
returns c = λ p is.
    let old : SocksView = record { pcbs = c.self.inside.parts.pcbs; queues = from_three c.self.inside.parts.queues } in
    let new : SocksView = record { pcbs = c.open-opened.new.self; queues = from_three c.self.inside.parts.queues } in
    let is_old : IsSocks p old = subst (IsSocks p) (sym c.self.view_is) is in
    subst (λ (v : SocksView). IsCalled p v Open (opened_reply c.open-opened.result) new) c.self.view_is (record {
      step = λ rest. c.open-opened.ensures.step rest (queues_of p old.queues)
          (none_waits_there p old new.pcbs c.open-opened.result is_old c.open-opened.ensures.opened);
      ready = keeps_opened p old new.pcbs c.open-opened.result is_old c.laws.ensures.apart c.open-opened.ensures.opened
          c.open-opened.ensures.err;
      queues = refl;
    })
