use Rattle.std.proofs.Common.{ℕ, insert, ap, ◌∙◌, arith}
use Rattle.mbuf_chain.specs.Chain.{ChainView, chain_of}
use Rattle.mbuf_chain.specs.Train.{queued_packets}
use Rattle.mbuf_chain.proofs.Laws.Owners.{owned_after}
use Rattle.chain_ops.specs.Trims.{without_first}
use Rattle.ip_reass.specs.Fragments.{QueuedFragment, queued, queued_of}
use Rattle.ip_reass.specs.Inside.Walks.{after}
use Rattle.ip_reass.proofs.Fronts.{front_beside}
use Rattle.ip_reass.proofs.Steps.{Changed, changed_first, Trimmed, trimmed_at, end_at, queued_is, length-queued, within_of}
use Rattle.ip_reass.proofs.queue.trim_after.Goals as goal

pub moved-moved-requires : goal.moved-moved-requires
moved-moved-requires c =
    let was =
    queued_is c.args.pool.now c.args.train.now (after c.args.front) c.requires.next.at.held c.requires.next.more
    ∙ ap queued_of c.take_after-chain.ensures.taken in
    let ends =
    end_at 65515 (queued c.args.pool.now c.args.train.now) (after c.args.front)
    (within_of 65515 c.args.pool.now c.args.train.now c.requires.small)
    (omega (arith, length-queued c.args.pool.now c.args.train.now c.requires.next.at.held)) in
    omega (arith, ends, ap (λ (p : QueuedFragment). p.offset) was, c.requires.within)

change : (c : goal.After-insert_after-arg-2-1)
    → Changed c.take_after-chain.new.pool c.take_after-chain.new.train c.take_after-chain.result.0
    (record (chain_of c.take_after-chain.new.pool c.take_after-chain.result.0) {
      entries = without_first c.args.n (chain_of c.take_after-chain.new.pool c.take_after-chain.result.0).entries;
    }) c.trim_front.new.pool
change c =
    changed_first (owned_after c.take_after-chain.ensures.moves c.requires.next.at.held.owned)
    c.take_after-chain.ensures.held c.trim_front.ensures

pub insert_after-requires-clause-live : goal.insert_after-requires-clause-live
insert_after-requires-clause-live c = (change c).live

pub insert_after-requires-clause-headed : goal.insert_after-requires-clause-headed
insert_after-requires-clause-headed c =
    ap (λ (v : ChainView). v.front.header) ((change c).shown) ∙ ap (λ f. f.header) c.take_after-chain.ensures.alone

pub insert_after-requires-clause-apart : goal.insert_after-requires-clause-apart
insert_after-requires-clause-apart c = (change c).apart

all : (c : goal.After-insert_after)
    → Trimmed c.args.pool.now c.args.train.now (after c.args.front) c.args.n c.insert_after.new.pool
    c.insert_after.new.train
all c =
    trimmed_at c.requires.next.more c.requires.next.at.held c.take_after-chain.ensures.queued_packets
    c.take_after-chain.ensures.taken c.take_after-chain.ensures.moves
    (changed_first (owned_after c.take_after-chain.ensures.moves c.requires.next.at.held.owned)
    c.take_after-chain.ensures.held c.trim_front.ensures)
    (c.insert_after.ensures.queued_packets
    ∙ ap (λ (n : ℕ). insert (queued_packets c.trim_front.new.pool c.take_after-chain.new.train) (after c.args.front)
    (record {
      number = c.take_after-chain.result.0;
      entries = (chain_of c.trim_front.new.pool c.take_after-chain.result.0).entries;
      tag = n;
    })) c.moved-moved.ensures) c.insert_after.ensures.left.moves

pub returns-clause-queue : goal.returns-clause-queue
returns-clause-queue c = (all c).queue_is

pub returns-clause-left : goal.returns-clause-left
returns-clause-left c = record {
  front = c.insert_after.ensures.left.front;
  held = c.insert_after.ensures.left.held;
  moves = (all c).moves;
}

pub insert_after-requires-clause-at : goal.insert_after-requires-clause-at
insert_after-requires-clause-at c = record {
  front = front_beside c.take_after-chain.new.pool c.trim_front.new.pool c.take_after-chain.new.train c.args.front
      ((change c).queued_packets_are) c.take_after-chain.ensures.front;
  held = (change c).held;
}
