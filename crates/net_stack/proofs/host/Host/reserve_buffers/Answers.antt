use Rattle.std.proofs.Common.{refl, subst}
use Rattle.flat_model.specs.Amounts.Layout.{Need}
use Rattle.net_stack.specs.Inside.Arrivals.{IsAsked}
use Rattle.net_stack.proofs.host.Host.reserve_buffers.Goals as goal

pub returns-clause-asked : goal.returns-clause-asked
returns-clause-asked c = record {
  asked = subst (λ (n : Need). IsAsked c.args.self.now.pool c.args.self.now.reass c.args.self.now.net.counters n
      c.reserve.result c.reserve.new.pool c.reserve.new.waiting c.reserve.new.counters) c.wire_need-need.ensures
      (record { reserves = c.reserve.ensures.reserves; moves = c.reserve.ensures.moves });
  ready = c.reserve.ensures.ready;
  socks = refl;
  output = refl;
}
