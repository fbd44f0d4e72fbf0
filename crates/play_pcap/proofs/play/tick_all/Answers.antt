use Rattle.std.proofs.Common.{arith}
use Rattle.play_pcap.proofs.Goes.{goes_tick}
use Rattle.play_pcap.proofs.play.tick_all.Goals as goal

pub loop-left-preserved : goal.loop-left-preserved
loop-left-preserved g c = λ end rest.
    c.loop-left.invariant end (goes_tick _ _ _ _ _ end (omega arith) (omega arith) c.tick.ensures rest)
