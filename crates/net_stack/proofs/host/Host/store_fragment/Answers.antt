use Rattle.std.proofs.Common.{◌≡◌, ℕ, true, length, refl, sym, ap, ◌∙◌, arith}
use Rattle.flat_model.specs.Packets.Header.{head_fault}
use Rattle.flat_model.specs.Machine.Arrival.{is_fragment}
use Rattle.mbuf_chain.specs.Chain.{chain_of, with_chain}
use Rattle.chain_ops.specs.Trims.{only_first}
use Rattle.ip_out.specs.Headings.{head_in}
use Rattle.ip_out.specs.declared.head.IpHead.{IpHead}
use Rattle.ip_reass.specs.Arrivals.{flat_head}
use Rattle.net_stack.specs.Inside.Arrivals.{is_ours_or_all}
use Rattle.net_stack.proofs.ArriveLemmas.{IsForUs, cut_length, for_us, fragment_arrives}
use Rattle.net_stack.proofs.ReceiveLemmas.{IsReadyToArrive, came, stored_ready}
use Rattle.net_stack.proofs.InPlace.{asked_now}
use Rattle.net_stack.proofs.host.Host.store_fragment.Goals as goal
use Rattle.net_stack.proofs.host.Host.store_fragment.Goals.{After-put_packet-chain, After-trim_back}

-- ---- the packet is in a chain of its own
placed : (c : After-put_packet-chain) → IsReadyToArrive c.args.self.now.pool c.args.self.now.socks
    c.args.self.now.reass c.put_packet-chain.new.pool c.put_packet-chain.result
placed c =
    stored_ready {a = c.args.self.now.net.counters} c.requires.can.fit.socks c.requires.can.fit.owned
    (asked_now c.args.self.now.pool c.args.self.now.reass c.args.self.now.net.counters
    (length c.args.headed.packet.now) c.requires.can.wire.free) c.requires.can.fit.reass c.put_packet-chain.ensures

-- and then cut to its total length
cut : (c : After-trim_back) → IsReadyToArrive c.args.self.now.pool c.args.self.now.socks c.args.self.now.reass
    c.put_packet-chain.new.pool c.put_packet-chain.result
    → IsForUs c.put_packet-chain.new.pool c.args.self.now.reass c.args.self.now.socks c.args.self.now.net.counters
    c.put_packet-chain.result c.head-head.result c.trim_back.new.pool c.count.new.self
cut c is =
    let p = c.put_packet-chain.new.pool in
    let k : ℕ = c.put_packet-chain.result in
    let bytes = c.put_packet-chain.ensures.bytes_are in
    let t = c.args.self.now.socks.pcbs in
    for_us {a = c.args.self.now.net.counters} true is.beside.reass.table is.beside.socks.ready is.beside.owned
    (ap head_fault bytes ∙ c.args.headed.is_headed.faultless) (c.head-head.ensures ∙ ap head_in (sym bytes))
    (sym (ap (λ (x : IpHead). is_ours_or_all t.addr t.bcast x.dst) c.head-head.ensures ∙ c.requires.ours)) refl
    c.count.ensures
    (c.trim_back.ensures
    ∙ ap (λ (n : ℕ). with_chain p k (record (chain_of p k) { entries = only_first n (chain_of p k).entries }))
    c.from.ensures)

pub take_fragment-requires : goal.take_fragment-requires
take_fragment-requires c =
    let at = goal.at.take_fragment-requires c in
    let is = placed at.After-put_packet-chain in
    let now = cut at.After-trim_back is in
    let beside = now.cut.beside in
    record {
      fit = record { socks = beside.socks.ready; reass = beside.reass.table; owned = beside.owned };
      headed = now.cut.header ∙ is.header;
      total = cut_length now;
      header = now.head.least;
      offset = omega (arith, now.head.offset);
    }

pub returns : goal.returns
returns c =
    let at = goal.at.returns c in
    let is = placed at.After-put_packet-chain in
    let u = c.args.self.now in
    let fragment : is_fragment (flat_head c.head-head.result) ≡ true =
    ap (λ (x : IpHead). is_fragment (flat_head x)) c.head-head.ensures ∙ c.requires.fragment in
    record {
      does = came c.args.headed.packet.now c.requires.can.fit.socks c.requires.can.fit.owned
          (asked_now u.pool u.reass u.net.counters (length c.args.headed.packet.now) c.requires.can.wire.free) refl refl
          c.requires.can.fit.reass c.put_packet-chain.ensures
          (fragment_arrives (cut at.After-trim_back is) fragment c.take_fragment.ensures.does);
      reass = c.take_fragment.ensures.reass;
      output = c.take_fragment.ensures.output;
    }
