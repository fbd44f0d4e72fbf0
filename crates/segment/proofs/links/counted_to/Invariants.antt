use Rattle.std.proofs.Common.{◌≡◌, length, map, take}
use Rattle.segment.specs.Frames.{frames_to}
use Rattle.segment.specs.Inside.{flying}
use Rattle.segment.specs.Tallies.{with_received}
use Rattle.segment.proofs.links.counted_to.Given as goal

abbrev pub invariant-loop-at : goal.invariant-loop-at
invariant-loop-at l = l.tally ≡ with_received (length (frames_to l.place l.mac (map flying (take l.at l.due)))) l.fn.before
