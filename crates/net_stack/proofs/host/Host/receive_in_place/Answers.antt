use Rattle.std.proofs.Common.{◌≡◌, [], ◌++◌, refl, sym, ap, subst, ◌∙◌}
use Rattle.flat_model.specs.Machine.Count.{counted, counts_more}
use Rattle.flat_model.specs.declared.counter.Counter.TheVariants.{IpTotal}
use Rattle.flat_model.specs.declared.counters.Why.TheVariants.{NoBufs}
use Rattle.flat_model.specs.declared.fate.Fate.{Fate}
use Rattle.flat_model.specs.declared.fate.Fate.TheVariants.{Dropped}
use Rattle.mbuf_chain.specs.Owners.{IsOwned}
use Rattle.mbuf_chain.proofs.Laws.Owners.{owned_after}
use Rattle.ip_reass.specs.Table.{held_all}
use Rattle.sock_calls.specs.declared.net.Net.{Net}
use Rattle.sock_calls.specs.Sockets.{SocksView, IsSocks, queued_chains}
use Rattle.net_stack.specs.Inside.Arrivals.{HasCome, fate_by}
use Rattle.net_stack.specs.declared.host.Host.{Host}
use Rattle.net_stack.specs.Inside.Hosts.{PacketArrives, PartsFit, arrival_view}
use Rattle.net_stack.proofs.Aside.{host_view}
use Rattle.net_stack.proofs.ReceiveLemmas.{asked_socks, lost}
use Rattle.net_stack.proofs.InPlace.{again, ended}
use Rattle.net_stack.proofs.host.Host.receive_in_place.Goals as goal
use Rattle.net_stack.proofs.host.Host.receive_in_place.Goals.{In-Some}

pub returns-in_default : goal.returns-in_default
returns-in_default c =
    let u = c.make_space.new.self in
    record {
      does = subst (λ (s : SocksView). HasCome (arrival_view c.args.self.now) c.args.packet.now
          (Dropped NoBufs) (host_view u.pool s u.reass c.count_ended.new.self)) (sym c.in_default.ensures.asked.socks)
          (lost c.args.packet.now c.requires.fit.socks c.requires.fit.owned c.in_default.ensures.asked.asked refl refl
          c.count_ended.ensures);
      reass = c.in_default.ensures.asked.ready;
      output = ap (λ (n : Net). record n { counters = c.count_ended.new.self }) c.in_default.ensures.asked.output;
    }

-- ---- the pool has room: the parts still fit
fit : (c : In-Some) → PartsFit c.make_space.new.self []
fit c =
    let u = c.make_space.new.self in
    let asked = asked_socks c.requires.fit.socks c.requires.fit.owned c.in-Some.ensures.asked.asked in
    record {
      socks = subst (λ (s : SocksView). IsSocks u.pool s) (sym c.in-Some.ensures.asked.socks) asked.socks.ready;
      reass = c.in-Some.ensures.asked.ready;
      owned = subst (λ (s : SocksView).
          IsOwned u.pool (held_all u.pool u.reass.datagrams ++ queued_chains u.pool s.queues))
          (sym c.in-Some.ensures.asked.socks) (owned_after asked.moves c.requires.fit.owned);
    }

-- what then leaves the host so is what leaves it so from before
comes : (c : In-Some) (fate : Fate) (k : Host) → PacketArrives c.make_space.new.self c.args.packet.now fate k
    → PacketArrives c.args.self.now c.args.packet.now fate k
comes c fate k came =
    let u = c.make_space.new.self in
    record {
      does = again c.requires.fit.socks c.requires.fit.owned c.in-Some.ensures.asked.asked c.in-Some.ensures.free
          (subst (λ (s : SocksView). HasCome (host_view u.pool s u.reass u.net.counters) c.args.packet.now
          fate (arrival_view k)) c.in-Some.ensures.asked.socks came.does);
      reass = came.reass;
      output = came.output ∙ ap (λ (n : Net). record n { counters = k.net.counters }) c.in-Some.ensures.asked.output;
    }

pub process-requires-clause-can : goal.process-requires-clause-can
process-requires-clause-can c = record {
  fit = fit (goal.at.process-requires-clause-can c).In-Some;
  wire = record { most = c.requires.most; free = c.in-Some.ensures.free };
}

pub returns-in-Ok : goal.returns-in-Ok
returns-in-Ok c =
    comes (goal.at.returns-in-Ok c).In-Some (fate_by c.in-Ok.ending c.process.new.self.reached) c.process.new.self
    c.in-Ok.ensures

pub returns-in-Err : goal.returns-in-Err
returns-in-Err c =
    let at = (goal.at.returns-in-Err c).In-Some in
    let u = c.make_space.new.self in
    let after : Host → Host =
    λ (k : Host). record k { net = record (k.net) { counters = c.count_dropped.new.counters } } in
    let same : c.process.new.self ≡ u = c.in-Err.ensures.0 in
    comes at (Dropped c.in-Err.why) (after c.process.new.self)
    (subst (λ (k : Host). PacketArrives u c.args.packet.now (Dropped c.in-Err.why) (after k)) (sym same) (record {
      does = ended {a = u.net.counters} (Dropped c.in-Err.why) c.args.packet.now c.in-Err.why (fit at).socks
          (fit at).reass (fit at).owned
          c.in-Some.ensures.free c.in-Err.ensures.1 refl (c.count_dropped.ensures
          ∙ ap (λ (k : Host). counted c.in-Err.why (counts_more IpTotal 1 k.net.counters)) same);
      reass = (fit at).reass;
      output = refl;
    }))
