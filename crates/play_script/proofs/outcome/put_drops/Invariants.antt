use Rattle.std.proofs.Common.{◌≡◌, ◌*◌, ◌≤◌, length, take, flat_map}
use Rattle.play_script.specs.Outcomes.{cause_text}
use Rattle.play_script.proofs.outcome.put_drops.Given as goal

abbrev pub invariant-loop-why : goal.invariant-loop-why
invariant-loop-why l = record {
  items : l.text ≡ flat_map (cause_text l.before l.after) (take l.why-index l.why-items);
  len : length l.text ≤ 49 * l.why-index;
}
