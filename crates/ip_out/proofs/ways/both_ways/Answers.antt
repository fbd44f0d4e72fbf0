use Rattle.std.proofs.Common.{◌≡◌, ℕ, rules, arith, ap, sym, ◌∙◌, subst}
use Rattle.std.specs.Prelude.{nat_lt, Err}
use Rattle.mbuf_chain.specs.Chain.{ChainView, PoolView, chain_of, without}
use Rattle.mbuf_chain.proofs.Laws.Owners.{moves_trans}
use Rattle.mbuf_chain.proofs.Laws.Steps.{live_without, base_new}
use Rattle.mbuf_chain.proofs.Laws.Trains.{beside_without}
use Rattle.chain_ops.specs.Makes.{LacksMbufs}
use Rattle.chain_ops.specs.Rooms.{room_low}
use Rattle.ip_out.specs.declared.head.IpHead.{IpHead}
use Rattle.ip_out.specs.declared.ways.Way.TheVariants.{Both}
use Rattle.ip_out.specs.Inside.{IsBothWays}
use Rattle.ip_out.specs.Packets.{AreBegunPlain, IsDatagramChain, later_need, packets_of}
use Rattle.ip_out.specs.Ways.{way_need}
use Rattle.ip_out.proofs.Copies.{IsCopied, IsFirst, copied, length_copied, first_sent, second_sent, then_freed, gone_whole, is_cut}
use Rattle.ip_out.proofs.ways.both_ways.Goals as goal
use Rattle.ip_out.proofs.ways.both_ways.Goals.{In-Ok, In-Ok-fragments}

-- too few mbufs were free, and the chain was freed
refused : {E : Type 0} {p : PoolView} {c : ℕ} {h : IpHead} {mtu : ℕ} {q : PoolView} {e : E}
    → LacksMbufs p (way_need Both (chain_of p c) mtu) → q ≡ without p c → IsBothWays p c h mtu q (Err e)
refused err freed = record {
  link = tt;
  looped = tt;
  cut = tt;
  held = tt;
  plain = tt;
  moves = tt;
  enough = tt;
  err = err;
  freed = freed;
}

pub returns-in_default : goal.returns-in_default
returns-in_default c =
    let freed : c.free_chain.new.self ≡ without c.args.pool.now c.args.chain = search rules in
    refused
    (omega (
      arith,
      c.in_default.ensures.err,
      length_copied (room_low (chain_of c.args.pool.now c.args.chain).front.header)
          (chain_of c.args.pool.now c.args.chain).entries,
    )) freed

-- the copy, and what the packets of the chain and of the copy leave
copy : (c : In-Ok)
    → IsCopied c.args.pool.now c.m_copym.new.pool c.args.chain c.in-Ok.copy c.args.head c.args.mtu
copy c =
    copied c.args.chain c.in-Ok.copy (room_low (chain_of c.args.pool.now c.args.chain).front.header)
    (chain_of c.args.pool.now c.args.chain).front.header c.args.head c.args.mtu c.in-Ok.ensures.ok
    c.requires.datagram.headed c.requires.live c.requires.datagram

first : (c : In-Ok-fragments)
    → IsCopied c.args.pool.now c.m_copym.new.pool c.args.chain c.in-Ok.copy c.args.head c.args.mtu
    → IsFirst c.m_copym.new.pool c.fragments.new.pool c.args.chain c.in-Ok.copy c.in-Ok-fragments.link
first c k =
    first_sent c.args.chain c.in-Ok.copy c.in-Ok-fragments.link c.in-Ok-fragments.ensures.moves k.copy k.apart
    c.in-Ok-fragments.ensures.held

pub fragments-requires : goal.fragments-requires
fragments-requires c =
    let k = copy (goal.at.fragments-requires c).In-Ok in
    record {
      live = k.live;
      datagram = subst IsDatagramChain (sym k.same) c.requires.datagram;
      least = c.requires.least;
    }

pub free_chain-requires-in_default-fragments : goal.free_chain-requires-in_default-fragments
free_chain-requires-in_default-fragments c =
    let k = copy (goal.at.free_chain-requires-in_default-fragments c).In-Ok in
    live_without _ _ _ c.in_default-fragments.ensures.freed c.in-Ok.copy (λ e. k.apart (sym e)) k.copy

pub returns-in_default-fragments : goal.returns-in_default-fragments
returns-in_default-fragments c =
    let k = copy (goal.at.returns-in_default-fragments c).In-Ok in
    refused
    (omega (
      arith,
      c.in_default-fragments.ensures.err,
      k.held,
      k.moves.mbufs,
      ap (λ (v : ChainView). later_need v c.args.mtu) k.same,
    ))
    (c.free_chain-in_default-fragments.ensures
    ∙ ap (λ (s : PoolView). without s c.in-Ok.copy) c.in_default-fragments.ensures.freed
    ∙ base_new c.args.pool.now _ c.args.chain c.in-Ok.copy _ c.requires.live c.in-Ok.ensures.ok.adds)

pub fragments-requires-2 : goal.fragments-requires-2
fragments-requires-2 c =
    let at = goal.at.fragments-requires-2 c in
    let k = copy at.In-Ok in
    let f = first at.In-Ok-fragments k in
    record { live = f.live; datagram = subst IsDatagramChain (sym f.same) k.datagram; least = c.requires.least }

pub free-requires : goal.free-requires
free-requires c =
    let at = goal.at.free-requires c in
    let f = first at.In-Ok-fragments (copy at.In-Ok) in
    (beside_without _ _ _ _ c.in_default-fragments-2.ensures.freed f.apart c.in-Ok-fragments.ensures.held).held

pub returns-in_default-fragments-2 : goal.returns-in_default-fragments-2
returns-in_default-fragments-2 c =
    let at = goal.at.returns-in_default-fragments-2 c in
    let k = copy at.In-Ok in
    let f = first at.In-Ok-fragments k in
    refused
    (omega (
      arith,
      c.in_default-fragments-2.ensures.err,
      c.in-Ok-fragments.ensures.count,
      k.held,
      k.moves.mbufs,
      f.moves.mbufs,
      ap (λ (v : ChainView). later_need v c.args.mtu) k.same,
      ap (λ (v : ChainView). later_need v c.args.mtu) f.same,
      k.same_need,
    ))
    (gone_whole c.args.chain (moves_trans k.moves
    (moves_trans f.moves (then_freed c.in-Ok.copy c.in-Ok-fragments.link c.in_default-fragments-2.ensures.freed
    f.live c.in-Ok-fragments.ensures.held f.apart c.free.ensures))) c.requires.live)

pub returns : goal.returns
returns c =
    let at = goal.at.returns c in
    let k = copy at.In-Ok in
    let f = first at.In-Ok-fragments k in
    let second =
    second_sent c.args.chain c.in-Ok.copy c.in-Ok-fragments.link c.in-Ok-fragments-2.looped k.moves f
    c.in-Ok-fragments-2.ensures.moves c.in-Ok-fragments.ensures.held in
    let of_link =
    c.in-Ok-fragments.ensures.packets ∙ ap (λ (v : ChainView). packets_of v c.args.head c.args.mtu) k.same in
    record {
      link = second.same_packets ∙ of_link;
      looped =
          c.in-Ok-fragments-2.ensures.packets ∙ ap (λ (v : ChainView). packets_of v c.args.head c.args.mtu) f.same
          ∙ k.same_packets;
      cut =
          ap (nat_lt 1) c.len-is_cut.ensures
          ∙ is_cut _ c.in-Ok-fragments.link (chain_of c.args.pool.now c.args.chain) c.args.head c.args.mtu
          c.in-Ok-fragments.ensures.held of_link;
      held = (second.held, c.in-Ok-fragments-2.ensures.held);
      plain = (
        subst AreBegunPlain (sym second.same_queued) c.in-Ok-fragments.ensures.plain,
        c.in-Ok-fragments-2.ensures.plain,
      );
      moves = second.moves;
      enough =
          omega (
            arith,
            c.laws.ensures.few,
            c.in-Ok-fragments-2.ensures.count,
            c.in-Ok-fragments.ensures.count,
            k.held,
            second.moves.mbufs,
            ap (λ (v : ChainView). later_need v c.args.mtu) k.same,
            ap (λ (v : ChainView). later_need v c.args.mtu) f.same,
            k.same_need,
          );
      err = tt;
      freed = tt;
    }
