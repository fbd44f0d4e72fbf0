use Rattle.std.proofs.Common.{◌≡◌, ◌≤◌, length}
use Rattle.play_pcap.specs.Events.{going, acts_left}
use Rattle.play_pcap.proofs.moves.Moves.next_move.Given as goal

abbrev pub invariant-records : goal.invariant-records
invariant-records l = record {
  same : acts_left (going l.self) ≡ acts_left (going l.fn.self);
  course : l.self.course ≡ l.fn.self.course;
  passed : l.self.passed ≡ l.fn.self.passed;
  len : length l.self.rest.now ≤ length l.fn.self.rest.now;
}

abbrev pub decreases-records : goal.decreases-records
decreases-records l = length l.self.rest.now
