use Rattle.std.proofs.Common.{◌≡◌, ◌+◌, ◌≤◌, true, length, drop}
use Rattle.play_line.specs.Shown.{shown, shown_after}
use Rattle.play_line.proofs.shown.put_shown.Given as goal

abbrev pub invariant-loop-byte : goal.invariant-loop-byte
invariant-loop-byte l = record {
  same : shown_after l.text l.gap l.quoted l.escaped (drop l.byte-index l.line) ≡ shown l.line;
  len : length l.text ≤ l.byte-index;
  room : l.gap ≡ true → length l.text + 1 ≤ l.byte-index;
}
