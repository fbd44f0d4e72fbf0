use Rattle.std.proofs.Common.{ℕ, List, Err, length, refl, sym, ap, subst, ◌∙◌}
use Rattle.flat_model.specs.declared.fate.Fate.{Fate}
use Rattle.flat_model.specs.declared.fate.Fate.TheVariants.{Dropped}
use Rattle.net_stack.specs.Inside.Arrivals.{HasCome, fate_by}
use Rattle.net_stack.specs.Inside.Hosts.{arrival_view}
use Rattle.sock_calls.specs.Delivery.{NetView, whole_of}
use Rattle.sock_calls.specs.Whole.{DeliversWhole, HasWire}
use Rattle.sock_calls.proofs.Laws.{refused}
use Rattle.net_stack.specs.declared.host.Ending.{Ending}
use Rattle.net_stack.proofs.Aside.{host_view}
use Rattle.net_stack.proofs.Endings.{told_whole_by}
use Rattle.net_stack.proofs.InPlace.{came_delivered, ended, whole_ends}
use Rattle.net_stack.proofs.host.Host.receive_by_chain.Goals as goal

pub deliver-whole-requires-clause-fit : goal.deliver-whole-requires-clause-fit
deliver-whole-requires-clause-fit c = record { socks = c.requires.can.fit.socks; owned = c.requires.can.fit.owned }

pub deliver-whole-requires-clause-wire : goal.deliver-whole-requires-clause-wire
deliver-whole-requires-clause-wire c =
    subst (λ (xs : List ℕ). HasWire c.args.self.now.pool (length xs)) (sym c.in-Ok.ensures.packet) c.requires.can.wire

pub returns-in-Ok : goal.returns-in-Ok
returns-in-Ok c =
    let u = c.args.self.now in
    let d = c.deliver-whole.new in
    let now : NetView = host_view d.pool d.self d.waiting d.counters in
    record {
      does = subst (λ (f : Fate). HasCome (arrival_view u) c.args.headed.packet.now f now)
          (sym (ap (λ (e : Ending). fate_by e d.reached) c.of_whole.ensures ∙ told_whole_by c.deliver-whole.result d.reached))
          (came_delivered u.pool u.socks u.reass u.net.counters c.count.ensures c.requires.can.wire.free
          c.args.headed.is_headed.faultless (λ rest. c.requires.whole.ours) c.requires.whole.whole
          (subst (λ (xs : List ℕ). DeliversWhole (host_view u.pool u.socks u.reass c.count.new.self) xs
          (whole_of c.deliver-whole.result d.reached) now) c.in-Ok.ensures.packet c.deliver-whole.ensures.delivered));
      reass = c.deliver-whole.ensures.waits;
      output = refl;
    }

pub returns-in-Err : goal.returns-in-Err
returns-in-Err c =
    let u = c.args.self.now in
    let packet : List ℕ = c.args.headed.packet.now in
    let fit = c.requires.can.fit in
    record {
      does = ended {a = u.net.counters} (Dropped c.in-Err.why) packet c.in-Err.why fit.socks fit.reass fit.owned
          c.requires.can.wire.free
          (whole_ends u.pool u.socks u.reass u.net.counters packet (Err c.in-Err.why) c.in-Err.why
          c.args.headed.is_headed.faultless
          (λ rest. c.requires.whole.ours) c.requires.whole.whole
          (refused u.pool u.socks packet c.in-Err.why c.in-Err.ensures.err)) refl c.count_dropped.ensures;
      reass = fit.reass;
      output = refl;
    }
