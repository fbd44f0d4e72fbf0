use Rattle.std.proofs.Common.{◌≡◌, ◌<◌, ℕ, sym, ◌∙◌, arith}
use Rattle.std.proofs.lemmas.Bool.{eqb-false, eqb-true}
use Rattle.net_stack.specs.Inside.Hosts.{arrival_view}
use Rattle.net_stack.proofs.ArriveAll.{taken, one_owned, one_more, all_arrived}
use Rattle.net_stack.proofs.host.Host.arrive_all.Goals as goal

some : (n : ℕ) → (n ≡ 0 → ⊥) → 0 < n
some n ne = omega arith

pub arrive-requires-clause-fit : goal.arrive-requires-clause-fit
arrive-requires-clause-fit c =
    let left = taken c.packets.train c.take-chain.new.self c.packets.invariant.owned c.packets.invariant.reass
    c.packets.invariant.way.parts.ready c.take-chain.ensures.moves in
    record {
      socks = left.socks.ready;
      reass = left.reass.table;
      owned = one_owned c.packets.train c.take-chain.new.self left;
    }

pub packets-preserved : goal.packets-preserved
packets-preserved c =
    let more = one_more {ds = c.packets.self.reass} {ds2 = c.arrive.new.self.reass} c.take-chain.result.1
    c.packets.invariant.way c.packets.invariant.held c.packets.invariant.plain c.packets.invariant.owned
    c.packets.invariant.reass
    (some c.packets.train.len (eqb-false _ _ (sym c.is_empty.ensures ∙ c.packets-test.true)))
    c.take-chain.ensures.queued_packets c.take-chain.ensures.taken c.take-chain.ensures.held
    c.take-chain.ensures.moves c.arrive.ensures.does in
    record {
      way = more.way;
      reass = c.arrive.ensures.reass;
      held = more.held;
      plain = more.plain;
      owned = more.owned;
      output = c.arrive.ensures.output
          ∙ (λ i. record (c.packets.invariant.output i) { counters = c.arrive.new.self.net.counters });
    }

pub returns : goal.returns
returns c = record {
  does = all_arrived _ c.args.train (arrival_view c.packets.self) c.packets.train c.packets.invariant.way
      (eqb-true _ _ (sym c.is_empty.ensures ∙ c.packets-test.false));
  reass = c.packets.invariant.reass;
  output = c.packets.invariant.output;
}
