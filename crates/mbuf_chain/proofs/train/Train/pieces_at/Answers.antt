use Rattle.std.proofs.Common.{◌∙◌, sym, ap}
use Rattle.mbuf_chain.specs.Train.{QueuedPacket}
use Rattle.mbuf_chain.specs.Pieces.{pieces_of}
use Rattle.mbuf_chain.proofs.Trains.{live_queued, queued_packet_is}
use Rattle.mbuf_chain.proofs.train.Train.pieces_at.Goals as goal

pub pieces_of-requires : goal.pieces_of-requires
pieces_of-requires c =
    live_queued c.args.pool.now c.args.self.now c.args.at.index c.args.at.number c.requires.held c.requires.place.number

pub returns : goal.returns
returns c =
    c.pieces_of.ensures ∙ sym (ap (λ (queued_packet : QueuedPacket). pieces_of queued_packet.entries)
    (queued_packet_is c.args.pool.now c.args.self.now c.args.at.index c.args.at.number c.requires.place.number))
