use Rattle.std.proofs.Common.{rules, ◌≡◌, ℕ, ◌+◌, List, length, arith, ap, ◌∙◌}
use Rattle.mbuf_chain.specs.Chain.{Entry, ChainView, chain_of, entry_in, entry_of}
use Rattle.mbuf_chain.proofs.Laws.Owners.{moves_trans}
use Rattle.mbuf_chain.proofs.Laws.Steps.{live_shown}
use Rattle.chain_ops.proofs.Laws.Steps.{plain_unshared}
use Rattle.ip_out.proofs.Later.{length_head}
use Rattle.ip_out.proofs.Firsts.{entry_trimmed, Written, only_some, trimmed, string_long, written, packets_are, begun_plain, held_packets}
use Rattle.ip_out.proofs.fragments.cut_packets.Goals as goal
use Rattle.ip_out.proofs.fragments.cut_packets.Goals.{After-first-at, After-overwrite}

pub first-at-requires : goal.first-at-requires
first-at-requires c = live_shown _ _ _ _ c.trim_back.ensures

-- its first mbuf after that
front : (c : After-first-at) → entry_in c.trim_back.new.pool c.args.chain c.first-at.result
    ≡ entry_of (trimmed (chain_of c.args.pool.now c.args.chain) (20 + c.min.result)) 0
front c =
    entry_trimmed c.args.chain (20 + c.min.result) c.first-at.result c.in-Ok.ensures.ok.moves c.requires.has.live
    c.trim_back.ensures c.first-at.ensures.index

pub overwrite-requires-clause-unshared : goal.overwrite-requires-clause-unshared
overwrite-requires-clause-unshared c =
    plain_unshared c.trim_back.new.pool (entry_in c.trim_back.new.pool c.args.chain c.first-at.result)
    (ap (λ (x : Entry). x.cluster) (front (goal.at.overwrite-requires-clause-unshared c).After-first-at)
    ∙ (only_some (chain_of c.args.pool.now c.args.chain).entries (20 + c.min.result) c.requires.has.datagram.room
    (omega arith)).1 ∙ c.requires.has.datagram.plain)

pub overwrite-requires-clause-within : goal.overwrite-requires-clause-within
overwrite-requires-clause-within c =
    omega (
      arith,
      ap (λ (x : Entry). length x.bytes) (front (goal.at.overwrite-requires-clause-within c).After-first-at),
      (only_some (chain_of c.args.pool.now c.args.chain).entries (20 + c.min.result) c.requires.has.datagram.room
          (omega arith)).0,
      ap (λ (xs : List ℕ). length xs) c.write_head.ensures,
      length_head c.head_of.result,
    )

-- the first packet with its header
first : (c : After-overwrite) → Written c.args.pool.now c.later.new.pool c.overwrite.new.self c.in-Ok.train
    c.args.chain (20 + c.min.result) c.write_head.new.bytes
first c =
    let l = c.in-Ok.ensures.ok in
    written c.args.chain (20 + c.min.result) c.first-at.result c.write_head.new.bytes l.moves l.held c.requires.has.live
    c.trim_back.ensures c.first-at.ensures.index c.overwrite.ensures

pub insert-requires-clause-live : goal.insert-requires-clause-live
insert-requires-clause-live c = (first (goal.at.insert-requires-clause-live c).After-overwrite).live

pub insert-requires-clause-headed : goal.insert-requires-clause-headed
insert-requires-clause-headed c =
    let w = first (goal.at.insert-requires-clause-headed c).After-overwrite in
    ap (λ (x : ChainView). x.front.header) w.shown ∙ c.requires.has.datagram.headed

pub insert-requires-clause-held : goal.insert-requires-clause-held
insert-requires-clause-held c = (first (goal.at.insert-requires-clause-held c).After-overwrite).beside.held

pub insert-requires-clause-apart : goal.insert-requires-clause-apart
insert-requires-clause-apart c = (first (goal.at.insert-requires-clause-apart c).After-overwrite).apart

pub returns : goal.returns
returns c =
    let l = c.in-Ok.ensures.ok in
    let w = first (goal.at.returns c).After-overwrite in
    let len : length c.write_head.new.bytes ≡ 20 =
    ap (λ (xs : List ℕ). length xs) c.write_head.ensures ∙ length_head c.head_of.result in
    let long = string_long (chain_of c.args.pool.now c.args.chain).entries c.requires.has.datagram.room in
    let all =
    packets_are c.insert.new.pool c.insert.new.self c.args.chain _ _ (20 + c.min.result) _ c.args.mtu c.args.head
    c.head_of.result c.write_head.new.bytes c.requires.has.datagram (omega (arith, c.requires.has.len, long))
    c.cut_of-cut.ensures.cut l (ap (λ (k : ℕ). 20 + k) c.min.ensures) c.head_of.ensures c.write_head.ensures len w
    c.insert.ensures.queued_packets in
    let moves = moves_trans w.moves c.insert.ensures.moves in
    record {
      held = c.insert.ensures.held;
      packets = all;
      plain = begun_plain c.insert.new.pool c.insert.new.self c.args.chain (20 + c.min.result) c.write_head.new.bytes
          c.requires.has.datagram l.plain w c.insert.ensures.queued_packets;
      moves = moves;
      count = held_packets c.insert.new.self c.args.chain _ _ _ c.args.mtu c.args.head moves c.requires.has.live
          c.cut_of-cut.ensures.cut (omega (arith, c.requires.has.len, long)) all;
      enough = search rules;
    }
