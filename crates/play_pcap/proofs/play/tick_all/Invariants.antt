use Rattle.std.proofs.Common.{replicate}
use Rattle.play_pcap.specs.Acts.{Passes}
use Rattle.play_pcap.specs.Events.{Goes}
use Rattle.play_pcap.proofs.play.tick_all.Given as goal

abbrev pub invariant-loop-left : goal.invariant-loop-left
invariant-loop-left g l = (end : g.X.Wire.State)
    → Goes g.X.Wire.may_go (replicate l.left Passes) (g.X.Wire.state l.wire) end
    → Goes g.X.Wire.may_go (replicate l.fn.count Passes) (g.X.Wire.state l.fn.wire) end

abbrev pub decreases-loop-left : goal.decreases-loop-left
decreases-loop-left g l = l.left
