use Rattle.std.proofs.Common.{◌≡◌, ◌+◌}
use Rattle.std.specs.Prelude.{vec_capacity, vec_len}
use Rattle.segment.proofs.flight.empty.Given as goal

abbrev pub invariant-loop-frame : goal.invariant-loop-frame
invariant-loop-frame l = record {
  all : vec_len l.due + vec_len l.spare ≡ vec_len l.fn.due + vec_len l.fn.spare;
  room : vec_capacity l.spare ≡ vec_capacity l.fn.spare;
  due_room : vec_capacity l.due ≡ vec_capacity l.fn.due;
}

abbrev pub decreases-loop-frame : goal.decreases-loop-frame
decreases-loop-frame l = goal.left-loop-frame l
