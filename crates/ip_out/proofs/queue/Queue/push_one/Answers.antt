use Rattle.std.proofs.Common.{◌++◌, ◌≤◌, ℕ, List, false, length, ap, sym, ◌∙◌}
use Rattle.std.specs.Prelude.{nat_lt}
use Rattle.flat_model.specs.Fragments.Cuts.{Part}
use Rattle.mbuf_chain.specs.Chain.{chain_of}
use Rattle.mbuf_chain.specs.Train.{TrainView}
use Rattle.ip_out.specs.Packets.{train_packets, packets_of}
use Rattle.ip_out.proofs.Sends.{TakesOne, one_packet, one_part, room}
use Rattle.ip_out.proofs.queue.Queue.push_one.Goals.{After-add_whole}
use Rattle.ip_out.proofs.queue.Queue.push_one.Goals as goal

taken : (c : After-add_whole) (mtu : ℕ) → c.args.len ≤ mtu
    → TakesOne c.args.pool.now c.add_whole.new.pool c.args.self.now c.add_whole.new.train false
    (packets_of (chain_of c.args.pool.now c.args.chain) c.args.head mtu)
taken c mtu fits =
    let some = packets_of (chain_of c.args.pool.now c.args.chain) c.args.head mtu in
    room c.args.pool.now c.add_whole.new.pool c.args.self.now c.add_whole.new.train some c.requires.queue
    c.requires.room
    (one_packet (chain_of c.args.pool.now c.args.chain) c.args.head c.args.len mtu c.requires.datagram c.requires.len
    fits)
    (c.add_whole.ensures.packets mtu fits
    ∙ ap (λ (t : TrainView). train_packets c.args.pool.now t ++ some) c.self.view_is)

pub returns-clause-packets : goal.returns-clause-packets
returns-clause-packets c mtu fits = (taken (goal.at.returns-clause-packets c).After-add_whole mtu fits).items

pub returns-clause-lost : goal.returns-clause-lost
returns-clause-lost c mtu fits = (taken (goal.at.returns-clause-lost c).After-add_whole mtu fits).is_lost

pub returns-clause-cut : goal.returns-clause-cut
returns-clause-cut c mtu fits =
    sym (ap (λ (ps : List Part). nat_lt 1 (length ps))
    (one_part (chain_of c.args.pool.now c.args.chain) c.args.len mtu c.requires.datagram c.requires.len fits))
