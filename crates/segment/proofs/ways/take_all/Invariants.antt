use Rattle.std.proofs.Common.{◌≡◌, take, drop, length}
use Rattle.net_stack.specs.Runs.{AreCalls}
use Rattle.segment.specs.Flying.{transmits_of, sent_by, waiting}
use Rattle.segment.specs.Inside.{AreSentBy}
use Rattle.segment.proofs.ways.take_all.Given as goal

abbrev pub invariant-loop : goal.invariant-loop
invariant-loop g l = record {
  calls : AreCalls l.fn.stack (transmits_of (take l.counter (waiting l.fn.stack))) l.stack;
  waits : waiting l.stack ≡ drop l.counter (waiting l.fn.stack);
  sent : AreSentBy l.fn.flight l.fn.impairment (sent_by l.sender (take l.counter (waiting l.fn.stack))) l.flight
      l.impairment;
  end : l.end ≡ length (waiting l.fn.stack);
}
