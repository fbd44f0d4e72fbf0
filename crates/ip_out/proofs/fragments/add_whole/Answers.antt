use Rattle.std.proofs.Common.{◌≡◌, ℕ, false, List, length, arith, ap, ◌∙◌}
use Rattle.std.specs.List.{insert}
use Rattle.mbuf_chain.specs.Chain.{ChainView, chain_of, entry_of, entry_in}
use Rattle.mbuf_chain.specs.Train.{QueuedPacket, queued_packets}
use Rattle.ip_out.specs.declared.head.IpHead.{IpHead}
use Rattle.mbuf_chain.proofs.Laws.Owners.{moves_trans}
use Rattle.chain_ops.proofs.Laws.Steps.{plain_unshared}
use Rattle.ip_out.proofs.Later.{length_head}
use Rattle.ip_out.proofs.Firsts.{IsHeaded, headed_whole, whole_added, plain_added}
use Rattle.ip_out.proofs.fragments.add_whole.Goals as goal
use Rattle.ip_out.proofs.fragments.add_whole.Goals.{After-insert, After-overwrite}

-- the header that is written
abbrev whole_head : IpHead → ℕ → IpHead
whole_head h len = record h { total = len; more = false; offset = 0 }

pub overwrite-requires-clause-unshared : goal.overwrite-requires-clause-unshared
overwrite-requires-clause-unshared c =
    let v : ChainView = chain_of c.args.pool.now c.args.chain in
    plain_unshared c.args.pool.now (entry_in c.args.pool.now c.args.chain c.first-at.result)
    (ap (λ (i : ℕ). (entry_of v i).cluster) c.first-at.ensures.index ∙ c.requires.has.datagram.plain)

pub overwrite-requires-clause-within : goal.overwrite-requires-clause-within
overwrite-requires-clause-within c =
    let v : ChainView = chain_of c.args.pool.now c.args.chain in
    omega (
      arith,
      ap (λ (i : ℕ). length (entry_of v i).bytes) c.first-at.ensures.index,
      c.requires.has.datagram.room,
      ap (λ (xs : List ℕ). length xs) c.write_head.ensures,
      length_head (whole_head c.args.head c.args.len),
    )

-- the chain with its header
headed : (c : After-overwrite) → IsHeaded c.args.pool.now c.overwrite.new.self c.args.train.now c.args.chain
    c.args.len c.write_head.new.bytes
headed c =
    headed_whole c.args.train.now c.args.chain c.args.len c.first-at.result c.write_head.new.bytes c.requires.held
    c.requires.apart c.requires.has.live c.requires.has.len c.first-at.ensures.index c.overwrite.ensures

pub insert-requires-clause-live : goal.insert-requires-clause-live
insert-requires-clause-live c = (headed (goal.at.insert-requires-clause-live c).After-overwrite).live

pub insert-requires-clause-headed : goal.insert-requires-clause-headed
insert-requires-clause-headed c =
    let w = headed (goal.at.insert-requires-clause-headed c).After-overwrite in
    ap (λ (x : ChainView). x.front.header) w.shown ∙ c.requires.has.datagram.headed

pub insert-requires-clause-held : goal.insert-requires-clause-held
insert-requires-clause-held c = (headed (goal.at.insert-requires-clause-held c).After-overwrite).beside.held

pub insert-requires-clause-apart : goal.insert-requires-clause-apart
insert-requires-clause-apart c = (headed (goal.at.insert-requires-clause-apart c).After-overwrite).apart

queued : (c : After-insert) → queued_packets c.insert.new.pool c.insert.new.self
    ≡ insert (queued_packets c.overwrite.new.self c.args.train.now) c.args.train.now.len
    (record { number = c.args.chain; entries = (chain_of c.overwrite.new.self c.args.chain).entries; tag = 0 })
queued c =
    let x : QueuedPacket =
    record { number = c.args.chain; entries = (chain_of c.overwrite.new.self c.args.chain).entries; tag = 0 } in
    c.insert.ensures.queued_packets
    ∙ ap (λ (k : ℕ). insert (queued_packets c.overwrite.new.self c.args.train.now) k x) c.len-end.ensures

pub returns-clause-packets : goal.returns-clause-packets
returns-clause-packets c mtu fits =
    let at = goal.at.returns-clause-packets c in
    whole_added c.insert.new.pool c.insert.new.self c.args.chain c.args.len mtu c.args.head c.write_head.new.bytes
    c.requires.has.datagram c.requires.has.len fits c.write_head.ensures (headed at.After-overwrite)
    (queued at.After-insert)

pub returns-clause-plain : goal.returns-clause-plain
returns-clause-plain c before =
    let at = goal.at.returns-clause-plain c in
    plain_added c.insert.new.pool c.insert.new.self c.args.chain c.args.len c.write_head.new.bytes
    c.requires.has.datagram (headed at.After-overwrite) (queued at.After-insert) before

pub returns-clause-moves : goal.returns-clause-moves
returns-clause-moves c =
    moves_trans (headed (goal.at.returns-clause-moves c).After-overwrite).moves c.insert.ensures.moves
