use Rattle.std.proofs.Common.{◌∙◌, sym, ap}
use Rattle.mbuf_chain.specs.Train.{QueuedPacket}
use Rattle.mbuf_chain.proofs.Trains.{live_queued, queued_packet_is}
use Rattle.mbuf_chain.proofs.train.Train.tag_at.Goals as goal

pub tag-requires : goal.tag-requires
tag-requires c =
    live_queued c.args.pool.now c.args.self.now c.args.at.index c.args.at.number c.requires.held c.requires.place.number

pub returns : goal.returns
returns c =
    c.tag.ensures ∙ sym (ap (λ (queued_packet : QueuedPacket). queued_packet.tag)
    (queued_packet_is c.args.pool.now c.args.self.now c.args.at.index c.args.at.number c.requires.place.number))
