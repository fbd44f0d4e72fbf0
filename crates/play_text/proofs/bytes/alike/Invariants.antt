use Rattle.std.proofs.Common.{◌≡◌, ◌+◌, ◌-◌, ◌≤◌, drop}
use Rattle.play_text.specs.Bytes.{alike}
use Rattle.play_text.proofs.bytes.alike.Given as goal

abbrev pub invariant-loop-at : goal.invariant-loop-at
invariant-loop-at l = record {
  is : alike l.first l.second ≡ l.at + alike (drop l.at l.first) (drop l.at l.second);
  most : l.at ≤ l.len;
}

abbrev pub decreases-loop-at : goal.decreases-loop-at
decreases-loop-at l = l.len - l.at
