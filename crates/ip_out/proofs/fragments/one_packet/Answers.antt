use Rattle.std.proofs.Common.{◌≡◌, ℕ, ◌+◌, ◌-◌, ◌≤◌, List, ◌∷◌, ◌++◌, length, arith, ap, sym, ◌∙◌, subst}
use Rattle.flat_model.specs.Amounts.Weight.{Item}
use Rattle.mbuf_chain.specs.Chain.{ChainView, chain_of, string}
use Rattle.mbuf_chain.specs.Owners.{Moves, times_among}
use Rattle.mbuf_chain.specs.Train.{TrainView, numbers}
use Rattle.mbuf_chain.proofs.Laws.Trains.{held_none, none_left}
use Rattle.ip_out.specs.Packets.{BeginPlain, packets_of}
use Rattle.ip_out.proofs.Firsts.{string_long, held_packets}
use Rattle.ip_out.proofs.Outputs.{cut_none}
use Rattle.ip_out.proofs.Queues.{none_wait}
use Rattle.ip_out.proofs.fragments.one_packet.Goals as goal

pub add_whole-requires-clause-held : goal.add_whole-requires-clause-held
add_whole-requires-clause-held c = held_none c.args.pool.now c.new-train.result c.new-train.ensures

pub add_whole-requires-clause-apart : goal.add_whole-requires-clause-apart
add_whole-requires-clause-apart c =
    ap (times_among c.args.chain) (none_left c.args.pool.now c.new-train.result
    (ap (λ (t : TrainView). t.len) c.new-train.ensures))

packets_is : goal.returns-clause-packets
packets_is c mtu fits =
    c.add_whole.ensures.packets mtu fits
    ∙ ap (λ (xs : List Item). xs ++ packets_of (chain_of c.args.pool.now c.args.chain) c.args.head mtu)
    (none_wait c.args.pool.now c.new-train.result (ap (λ (t : TrainView). t.len) c.new-train.ensures))

pub returns-clause-packets : goal.returns-clause-packets
returns-clause-packets c = packets_is c

pub returns-clause-plain : goal.returns-clause-plain
returns-clause-plain c = c.add_whole.ensures.plain (subst (BeginPlain c.args.pool.now) (sym c.new-train.ensures) tt)

moves_is : goal.returns-clause-moves
moves_is c =
    subst (λ (xs : List ℕ). Moves c.args.pool.now (c.args.chain ∷ xs) c.add_whole.new.pool
    (numbers c.add_whole.new.pool c.add_whole.new.train))
    (none_left c.args.pool.now c.new-train.result (ap (λ (t : TrainView). t.len) c.new-train.ensures))
    c.add_whole.ensures.moves

pub returns-clause-moves : goal.returns-clause-moves
returns-clause-moves c = moves_is c

count_is : goal.returns-clause-count
count_is c mtu fits =
    let v : ChainView = chain_of c.args.pool.now c.args.chain in
    let n : ℕ = c.args.len - 20 in
    let long : 20 ≤ length (string v) = string_long v.entries c.requires.datagram.room in
    let short : n ≤ 65515 = omega (arith, c.requires.len, c.requires.datagram.most) in
    let whole : n + 20 ≡ length (string v) = omega (arith, c.requires.len, long) in
    held_packets c.add_whole.new.train c.args.chain n 65528 1 mtu c.args.head (moves_is c) c.requires.live
    (cut_none n mtu short (omega (arith, fits, whole, c.requires.len))) whole (packets_is c mtu fits)

pub returns-clause-count : goal.returns-clause-count
returns-clause-count c = count_is c

pub returns-clause-enough : goal.returns-clause-enough
returns-clause-enough c mtu fits = omega (arith, count_is c mtu fits, (moves_is c).mbufs, c.laws.ensures.few)
