use Rattle.std.proofs.Common.{◌≡◌, ◌+◌, ◌*◌, ◌≤◌, ◌++◌, length, codes, take}
use Rattle.request.proofs.CountLemmas.{texts}
use Rattle.request.proofs.print.put_counters.Given as goal

abbrev pub invariant-loop-counter : goal.invariant-loop-counter
invariant-loop-counter g l = record {
  items : l.text ≡ (l.fn.text ++ codes "stat") ++ texts l.counters (take l.counter-index l.counter-items);
  len : length l.text ≤ length l.fn.text + 4 + 37 * l.counter-index;
}
