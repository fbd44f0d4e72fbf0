use Rattle.std.proofs.Common.{◌≡◌, ◌+◌, ◌*◌, ◌≤◌, ◌++◌, length, take, flat_map}
use Rattle.play_text.specs.Tables.{row_text}
use Rattle.play_text.proofs.table.Table.put.Given as goal

abbrev pub invariant-loop-row : goal.invariant-loop-row
invariant-loop-row g l = record {
  items : l.text ≡ l.fn.text ++ flat_map row_text (take l.row-index l.row-items);
  len : length l.text ≤ length l.fn.text + 120 * l.row-index;
}
