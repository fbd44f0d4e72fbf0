use Rattle.std.proofs.Common.{◌≡◌, ◌+◌, ◌++◌, map}
use Rattle.std.specs.Prelude.{filter, reverse, vec_capacity, vec_len}
use Rattle.segment.specs.Flying.{flying_aged, is_due, is_early}
use Rattle.segment.specs.Inside.{flying}
use Rattle.segment.proofs.moves.part.Given as goal

abbrev pub invariant-loop-frame : goal.invariant-loop-frame
invariant-loop-frame l = record {
  now : map flying l.due.items ++ filter is_due (map flying (reverse l.all.items))
      ≡ filter is_due (map flying l.fn.all.items);
  later : map flying l.early.items ++ map flying_aged (filter is_early (map flying (reverse l.all.items)))
      ≡ map flying_aged (filter is_early (map flying l.fn.all.items));
  each : vec_len l.due + vec_len l.early + vec_len l.all ≡ vec_len l.fn.all;
  room : vec_capacity l.all ≡ vec_capacity l.fn.all;
  due_room : vec_capacity l.due ≡ vec_capacity l.fn.due;
  early_room : vec_capacity l.early ≡ vec_capacity l.fn.early;
}

abbrev pub decreases-loop-frame : goal.decreases-loop-frame
decreases-loop-frame l = goal.left-loop-frame l
