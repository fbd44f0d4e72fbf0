use Rattle.std.proofs.Common.{◌≡◌, ◌-◌, map}
use Rattle.std.specs.Prelude.{vec_capacity, vec_len}
use Rattle.segment.specs.Chances.{shuffled, shuffled_from}
use Rattle.segment.specs.Inside.{flying}
use Rattle.segment.proofs.chances.Impairment.shuffle.Given as goal

abbrev pub invariant-loop-at : goal.invariant-loop-at
invariant-loop-at l = record {
  left : shuffled_from l.fn.self.chances.items (l.at-end - l.at) l.at (map flying l.due.items) l.self.random
      ≡ shuffled l.fn.self.chances.items (map flying l.fn.due.items) l.fn.self.random;
  len : vec_len l.due ≡ vec_len l.fn.due;
  end : l.at-end ≡ vec_len l.fn.due - 1;
  chances : l.self.chances ≡ l.fn.self.chances;
  tallies : l.self.tallies ≡ l.fn.self.tallies;
  room : vec_capacity l.due ≡ vec_capacity l.fn.due;
}
