use Rattle.std.proofs.Common.{◌≡◌, ◌+◌, ◌≤◌}
use Rattle.mbuf_chain.specs.Owners.{Moves}
use Rattle.mbuf_chain.specs.Train.{IsHeld, numbers}
use Rattle.ip_reass.specs.Fragments.{bytes_held, fragments, queued, AllEnd}
use Rattle.ip_reass.specs.Inside.Walks.{IsFront, after}
use Rattle.ip_reass.proofs.Steps.{Clearing}
use Rattle.ip_reass.proofs.queue.clear.Given as goal

abbrev pub invariant-fragments : goal.invariant-fragments
invariant-fragments l = record {
  front : IsFront l.pool l.train l.front;
  few : l.train.len ≤ l.fn.train.len;
  held : IsHeld l.pool l.train;
  small : AllEnd 65515 (fragments l.pool l.train);
  clearing : Clearing l.end (after l.front) (queued l.fn.pool l.fn.train) (queued l.pool l.train);
  counted : l.gone + bytes_held (fragments l.pool l.train) ≡ bytes_held (fragments l.fn.pool l.fn.train);
  moves : Moves l.fn.pool (numbers l.fn.pool l.fn.train) l.pool (numbers l.pool l.train);
}

abbrev pub decreases-fragments : goal.decreases-fragments
decreases-fragments l = l.train.len
