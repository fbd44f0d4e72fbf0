use Rattle.std.proofs.Common.{◌≤◌, ◌-◌, length}
use Rattle.capture.specs.Feeds.{Fills}
use Rattle.capture.proofs.feed.Feed.fill.Given as goal

abbrev pub invariant-chunks : goal.invariant-chunks
invariant-chunks g l = record {
  read : Fills (g.S.Read.remaining l.fn.self.source) l.fn.self.buffer (g.S.Read.remaining l.self.source) l.self.buffer;
  most : length l.self.buffer ≤ l.goal;
}

abbrev pub decreases-chunks : goal.decreases-chunks
decreases-chunks g l = l.goal - length l.self.buffer
