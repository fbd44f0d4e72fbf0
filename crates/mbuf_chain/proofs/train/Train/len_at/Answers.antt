use Rattle.std.proofs.Common.{◌∙◌, sym, ap, length}
use Rattle.mbuf_chain.specs.Chain.{flat_bytes}
use Rattle.mbuf_chain.specs.Train.{QueuedPacket}
use Rattle.mbuf_chain.proofs.Trains.{live_queued, queued_packet_is}
use Rattle.mbuf_chain.proofs.train.Train.len_at.Goals as goal

pub len_of-requires : goal.len_of-requires
len_of-requires c =
    live_queued c.args.pool.now c.args.self.now c.args.at.index c.args.at.number c.requires.held c.requires.place.number

pub returns : goal.returns
returns c =
    c.len_of.ensures ∙ sym (ap (λ (queued_packet : QueuedPacket). length (flat_bytes queued_packet.entries))
    (queued_packet_is c.args.pool.now c.args.self.now c.args.at.index c.args.at.number c.requires.place.number))
