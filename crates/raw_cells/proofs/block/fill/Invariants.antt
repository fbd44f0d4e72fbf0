use Rattle.std.proofs.Common.{◌≡◌, ◌+◌, replicate}
use Rattle.raw_cells.proofs.block.fill.Given as goal

abbrev pub invariant-loop-i : goal.invariant-loop-i
invariant-loop-i l =
    record {
      place : l.bytes.at ≡ l.fn.bytes.at;
      zeros : l.bytes.written ≡ replicate l.i 0;
      left : l.bytes.blank + l.i ≡ l.len;
    }
