use Rattle.std.proofs.Common.{◌≡◌, ◌+◌, ◌*◌, ◌≤◌, ◌++◌, length, take, flat_map}
use Rattle.play_wire.specs.LinkTexts.{rise_text}
use Rattle.play_wire.proofs.report_link.put_rises.Given as goal

abbrev pub invariant-loop-which : goal.invariant-loop-which
invariant-loop-which l = record {
  items : l.text ≡ l.fn.text ++ flat_map (rise_text l.before l.after) (take l.which-index l.which-items);
  len : length l.text ≤ length l.fn.text + 26 * l.which-index;
}
