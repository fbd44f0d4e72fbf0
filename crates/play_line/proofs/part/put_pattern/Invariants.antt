use Rattle.std.proofs.Common.{◌≡◌, ◌-◌, ◌*◌, ◌≤◌, length}
use Rattle.play_line.specs.Bytes.{counting}
use Rattle.play_line.proofs.part.put_pattern.Given as goal

abbrev pub invariant-loop-next : goal.invariant-loop-next
invariant-loop-next l = record {
  same : l.piece ≡ counting l.next;
  len : length l.piece ≡ 2 * l.next;
  most : l.next ≤ l.count;
}

abbrev pub decreases-loop-next : goal.decreases-loop-next
decreases-loop-next l = l.count - l.next
