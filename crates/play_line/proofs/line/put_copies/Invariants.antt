use Rattle.std.proofs.Common.{◌≡◌, ◌+◌, ◌-◌, ◌*◌, ◌≤◌, length}
use Rattle.play_line.specs.Line.{appended}
use Rattle.play_line.proofs.line.put_copies.Given as goal

abbrev pub invariant-loop-copies : goal.invariant-loop-copies
invariant-loop-copies l = record {
  same : l.done ≡ appended l.fn.done l.copies l.piece;
  len : length l.done ≡ length l.fn.done + l.copies * length l.piece;
  most : l.copies ≤ l.count;
}

abbrev pub decreases-loop-copies : goal.decreases-loop-copies
decreases-loop-copies l = l.count - l.copies
