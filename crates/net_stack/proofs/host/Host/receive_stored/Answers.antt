use Rattle.std.proofs.Common.{ap, refl, subst, sym, ◌∙◌}
use Rattle.flat_model.specs.declared.counters.Why.TheVariants.{NoBufs}
use Rattle.flat_model.specs.declared.fate.Fate.TheVariants.{Dropped}
use Rattle.sock_calls.specs.declared.net.Net.{Net}
use Rattle.sock_calls.specs.Sockets.{SocksView}
use Rattle.net_stack.specs.Inside.Arrivals.{HasCome, IsArrived, fate_by}
use Rattle.net_stack.specs.Inside.Hosts.{arrival_view}
use Rattle.net_stack.proofs.Aside.{host_view}
use Rattle.net_stack.proofs.ReceiveLemmas.{IsReadyToArrive, came, lost, stored_ready}
use Rattle.net_stack.proofs.host.Host.receive_stored.Goals as goal
use Rattle.net_stack.proofs.host.Host.receive_stored.Goals.{After-put_packet-chain}

-- ---- the packet is in a chain of its own
placed : (c : After-put_packet-chain) → IsReadyToArrive c.reserve_buffers.new.self.pool c.reserve_buffers.new.self.socks
    c.reserve_buffers.new.self.reass c.put_packet-chain.new.pool c.put_packet-chain.result
placed c =
    let u = c.reserve_buffers.new.self in
    let is = c.reserve_buffers.ensures.asked in
    subst (λ (s : SocksView). IsReadyToArrive u.pool s u.reass c.put_packet-chain.new.pool c.put_packet-chain.result)
    (sym is.socks)
    (stored_ready c.requires.fit.socks c.requires.fit.owned is.asked is.ready c.put_packet-chain.ensures)

pub arrive-requires-clause-fit : goal.arrive-requires-clause-fit
arrive-requires-clause-fit c =
    let beside = (placed (goal.at.arrive-requires-clause-fit c).After-put_packet-chain).beside in
    record { socks = beside.socks.ready; reass = beside.reass.table; owned = beside.owned }

pub arrive-requires-clause-headed : goal.arrive-requires-clause-headed
arrive-requires-clause-headed c = (placed (goal.at.arrive-requires-clause-headed c).After-put_packet-chain).header

pub returns-then-reserve_buffers : goal.returns-then-reserve_buffers
returns-then-reserve_buffers c =
    let u = c.reserve_buffers.new.self in
    let k = c.arrive.new.self in
    let is = c.reserve_buffers.ensures.asked in
    record {
      does = came c.args.packet.now c.requires.fit.socks c.requires.fit.owned is.asked refl
          c.if-reserve_buffers.true is.ready c.put_packet-chain.ensures
          (subst (λ (s : SocksView). IsArrived (host_view c.put_packet-chain.new.pool s u.reass u.net.counters)
          c.put_packet-chain.result (fate_by c.arrive.result k.reached) (arrival_view k)) is.socks c.arrive.ensures.does);
      reass = c.arrive.ensures.reass;
      output = c.arrive.ensures.output ∙ ap (λ (n : Net). record n { counters = k.net.counters }) is.output;
    }

pub returns-else-reserve_buffers : goal.returns-else-reserve_buffers
returns-else-reserve_buffers c =
    let u = c.reserve_buffers.new.self in
    let is = c.reserve_buffers.ensures.asked in
    record {
      does = subst (λ (s : SocksView). HasCome (arrival_view c.args.self.now) c.args.packet.now
          (Dropped NoBufs) (host_view u.pool s u.reass c.count_ended.new.self)) (sym is.socks)
          (lost c.args.packet.now c.requires.fit.socks c.requires.fit.owned is.asked refl
          c.if-reserve_buffers.false c.count_ended.ensures);
      reass = is.ready;
      output = ap (λ (n : Net). record n { counters = c.count_ended.new.self }) is.output;
    }
