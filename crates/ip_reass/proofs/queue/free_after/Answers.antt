use Rattle.mbuf_chain.proofs.Laws.Trains.{FreedPacket, freed_packet}
use Rattle.ip_reass.specs.Inside.Walks.{after}
use Rattle.ip_reass.proofs.Fronts.{front_beside}
use Rattle.ip_reass.proofs.Steps.{queue_freed}
use Rattle.ip_reass.proofs.queue.free_after.Goals as goal

all : (c : goal.After-free_chain)
    → FreedPacket c.args.pool.now c.args.train.now c.take_after-chain.new.pool c.free_chain.new.self
    c.take_after-chain.new.train
all c =
    freed_packet c.requires.at.held c.take_after-chain.ensures.held c.take_after-chain.ensures.moves c.free_chain.ensures

pub returns-clause-queue : goal.returns-clause-queue
returns-clause-queue c =
    queue_freed c.args.pool.now c.take_after-chain.new.pool c.free_chain.new.self c.args.train.now
    c.take_after-chain.new.train (after c.args.front) (all c) c.take_after-chain.ensures.queued_packets

pub returns-clause-left : goal.returns-clause-left
returns-clause-left c = record {
  front = front_beside c.take_after-chain.new.pool c.free_chain.new.self c.take_after-chain.new.train c.args.front
      (all c).queued_packets c.take_after-chain.ensures.front;
  held = (all c).held;
  moves = (all c).moves;
}
