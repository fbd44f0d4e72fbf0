use Rattle.std.proofs.Common.{◌≡◌, length, take}
use Rattle.flat_model.specs.Machine.Count.{all_counters}
use Rattle.flat_model.specs.declared.counter.TheConstants.{COUNTERS}
use Rattle.flat_model.proofs.counter.Counter.all.Given as goal

-- the first are set
abbrev pub invariant-loop-i : goal.invariant-loop-i
invariant-loop-i l = (length l.all ≡ COUNTERS) × (take l.i l.all ≡ take l.i all_counters)
