use Rattle.std.proofs.Common.{◌≡◌, ◌≤◌, ◌+◌, length}
use Rattle.play_pcap.specs.Events.{Goes, came, going, acts_left, ticks_in}
use Rattle.play_pcap.proofs.play.play_moves.Given as goal

abbrev pub invariant-loop-next : goal.invariant-loop-next
invariant-loop-next g l = record {
  goes : (end : g.X.Wire.State) → Goes g.X.Wire.may_go (acts_left (going l.moves)) (g.X.Wire.state l.wire) end
      → Goes g.X.Wire.may_go (acts_left (going l.fn.moves)) (g.X.Wire.state l.fn.wire) end;
  packets : l.packets + came (acts_left (going l.moves)) ≡ came (acts_left (going l.fn.moves));
  ticks : l.moves.passed + ticks_in (acts_left (going l.moves))
      ≡ l.fn.moves.passed + ticks_in (acts_left (going l.fn.moves));
  passed : l.moves.passed ≤ 65535;
  most : l.packets + length l.moves.rest.now ≤ length l.fn.moves.rest.now;
}

abbrev pub decreases-loop-next : goal.decreases-loop-next
decreases-loop-next g l = length l.moves.rest.now
