use Rattle.std.proofs.Common.{◌≡◌, ◌+◌, ◌-◌, ◌++◌, ◌∷◌, ℕ, List, length, map, take, drop, subst, ap, ◌∙◌, sym, arith}
use Rattle.mbuf_chain.specs.Chain.{ChainView, chain_of, flat_bytes}
use Rattle.mbuf_chain.specs.Train.{QueuedPacket}
use Rattle.chain_ops.specs.Trims.{without_first}
use Rattle.ip_reass.specs.Fragments.{AllEnd, bytes_held, cut, cut_to, fragment_in, fragments, queued, queued_end, queued_of}
use Rattle.ip_reass.specs.Inside.Walks.{arrived, after}
use Rattle.ip_reass.proofs.Fronts.{front_beside, front_within}
use Rattle.ip_reass.proofs.Steps.{Changed, changed}
use Rattle.ip_reass.proofs.Counted.{held_between}
use Rattle.ip_reass.proofs.Inserts.{Waits, waits, Settled, settled}
use Rattle.ip_reass.proofs.queue.insert_trimmed.Goals.{After-clear-gone, After-insert_after, After-trim_front}
use Rattle.ip_reass.proofs.queue.insert_trimmed.Goals as goal

-- the trimmed chain, as `clear` needs it
change : (c : After-trim_front)
    → Changed c.args.pool.now c.args.train.now c.args.chain
    (record (chain_of c.args.pool.now c.args.chain) {
      entries = without_first c.saturating_sub-skip.result (chain_of c.args.pool.now c.args.chain).entries;
    }) c.trim_front.new.pool
change c =
    changed c.requires.live c.requires.apart c.requires.clear.at.held c.trim_front.ensures

wait : (c : After-clear-gone)
    → Waits c.args.chain (record (chain_of c.args.pool.now c.args.chain) {
      entries = without_first c.saturating_sub-skip.result (chain_of c.args.pool.now c.args.chain).entries;
    }) c.clear-gone.new.pool c.clear-gone.new.train
wait c =
    let change = changed c.requires.live c.requires.apart c.requires.clear.at.held c.trim_front.ensures in
    waits c.trim_front.new.pool c.clear-gone.new.pool c.args.train.now c.clear-gone.new.train c.args.chain _ change.live
    change.shown change.apart c.clear-gone.ensures.left.moves

pub insert_after-requires-clause-at : goal.insert_after-requires-clause-at
insert_after-requires-clause-at c =
    record { front = c.clear-gone.ensures.left.front; held = c.clear-gone.ensures.left.held }

pub insert_after-requires-clause-live : goal.insert_after-requires-clause-live
insert_after-requires-clause-live c = (wait (goal.at.insert_after-requires-clause-live c).After-clear-gone).live

pub insert_after-requires-clause-headed : goal.insert_after-requires-clause-headed
insert_after-requires-clause-headed c =
    ap (λ (v : ChainView). v.front.header)
    (wait (goal.at.insert_after-requires-clause-headed c).After-clear-gone).shown ∙ c.requires.headed

pub insert_after-requires-clause-apart : goal.insert_after-requires-clause-apart
insert_after-requires-clause-apart c = (wait (goal.at.insert_after-requires-clause-apart c).After-clear-gone).apart

all : (c : After-insert_after)
    → Settled c.args.pool.now c.args.train.now (after c.args.before.front) c.saturating_sub-skip.result c.args.chain
    (arrived c.args.pool.now c.args.chain c.args.span.offset c.args.span.more) c.insert_after.new.pool
    c.insert_after.new.train
all c =
    settled c.args.pool.now c.trim_front.new.pool c.clear-gone.new.pool c.insert_after.new.pool c.args.train.now
    c.clear-gone.new.train c.insert_after.new.train c.args.chain (after c.args.before.front)
    c.saturating_sub-skip.result c.args.span.offset (c.args.span.offset + c.len.result) c.new-tag.result.bits
    c.args.span.more
    (front_within c.args.pool.now c.args.train.now c.args.before.front c.requires.clear.at.front) c.requires.clear.at.held
    (changed c.requires.live c.requires.apart c.requires.clear.at.held c.trim_front.ensures)
    c.clear-gone.ensures.queue c.clear-gone.ensures.left.moves (ap (λ (n : ℕ). c.args.span.offset + n) c.len.ensures)
    c.new-tag.ensures.half c.new-tag.ensures.odd c.insert_after.ensures.queued_packets c.insert_after.ensures.left.moves

pub returns-clause-queue : goal.returns-clause-queue
returns-clause-queue c =
    let here = arrived c.args.pool.now c.args.chain c.args.span.offset c.args.span.more in
    let i = after c.args.before.front in
    let were = queued c.args.pool.now c.args.train.now in
    (all c).queue_is ∙ ap (λ (n : ℕ). take i were ++ cut n here ∷ cut_to (queued_end here) (drop i were))
    c.saturating_sub-skip.ensures

pub returns-clause-left : goal.returns-clause-left
returns-clause-left c = record {
  front = c.insert_after.ensures.left.front;
  held = c.insert_after.ensures.left.held;
  moves = (all c).moves;
}

counted : (c : After-insert_after)
    → bytes_held (fragments c.insert_after.new.pool c.insert_after.new.train)
    ≡ bytes_held (fragments c.clear-gone.new.pool c.clear-gone.new.train)
    + (length (flat_bytes (chain_of c.args.pool.now c.args.chain).entries) - c.saturating_sub-skip.result)
counted c =
    let here = arrived c.args.pool.now c.args.chain c.args.span.offset c.args.span.more in
    let i = after c.args.before.front in
    let were = queued c.args.pool.now c.args.train.now in
    let is : queued c.trim_front.new.pool c.args.train.now ≡ queued c.args.pool.now c.args.train.now =
    ap (map queued_of) (changed c.requires.live c.requires.apart c.requires.clear.at.held
    c.trim_front.ensures).queued_packets_are in
    held_between c.clear-gone.new.pool c.insert_after.new.pool c.clear-gone.new.train c.insert_after.new.train
    c.saturating_sub-skip.result (take i were) (cut_to (c.args.span.offset + c.len.result) (drop i were))
    here (c.clear-gone.ensures.queue ∙ λ j. take i (is j) ++ cut_to (c.args.span.offset + c.len.result) (drop i (is j)))
    ((all c).queue_is ∙ ap (λ (n : ℕ). take i were ++ cut c.saturating_sub-skip.result here
    ∷ cut_to (c.args.span.offset + n) (drop i were)) (sym c.len.ensures))

-- trimming the chain didn't change the fragments of the train
kept : (c : After-trim_front)
    → bytes_held (fragments c.trim_front.new.pool c.args.train.now)
    ≡ bytes_held (fragments c.args.pool.now c.args.train.now)
kept c = ap (λ (cs : List QueuedPacket). bytes_held (map fragment_in cs)) (change c).queued_packets_are

pub clear-gone-requires : goal.clear-gone-requires
clear-gone-requires c =
    let at = (goal.at.clear-gone-requires c).After-trim_front in
    let now = change at in
    record {
      at = record {
        front =
            front_beside c.args.pool.now c.trim_front.new.pool c.args.train.now c.args.before.front
            now.queued_packets_are c.requires.clear.at.front;
        held = now.held;
      };
      small = subst (AllEnd 65515) (sym (ap (map fragment_in) now.queued_packets_are)) c.requires.clear.small;
      few = omega (arith, kept at, c.requires.clear.few);
    }

pub returns-clause-gone : goal.returns-clause-gone
returns-clause-gone c =
    omega (
      arith,
      counted c,
      c.clear-gone.ensures.gone,
      kept (goal.at.returns-clause-gone c).After-trim_front,
      c.len.ensures,
      c.saturating_sub-skip.ensures,
    )
