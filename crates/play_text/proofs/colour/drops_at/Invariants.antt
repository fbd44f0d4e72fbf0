use Rattle.std.proofs.Common.{◌≡◌, ◌+◌, ◌-◌, ◌≤◌, length, drop}
use Rattle.play_text.specs.Forms.{drops_at}
use Rattle.play_text.proofs.colour.drops_at.Given as goal

abbrev pub invariant-loop-at : goal.invariant-loop-at
invariant-loop-at l = record {
  is : drops_at l.reply ≡ l.at + drops_at (drop l.at l.reply);
  most : l.at ≤ length l.reply;
}

abbrev pub decreases-loop-at : goal.decreases-loop-at
decreases-loop-at l = length l.reply - l.at
