use Rattle.std.proofs.Common.{◌≡◌, ◌≤◌, length}
use Rattle.capture.specs.Packets.{known}
use Rattle.capture.specs.Steps.{Passed}
use Rattle.capture.proofs.section.read_packet.Given as goal

abbrev pub invariant-loop-round : goal.invariant-loop-round
invariant-loop-round g l = record {
  held : length l.feed.buffer ≤ 12;
  at_is : l.at ≡ l.offset;
  passed : Passed (known l.fn.blocks) l.fn.offset (g.S.Read.remaining l.fn.feed.source) l.fn.feed.buffer (known
      l.blocks)
      l.offset (g.S.Read.remaining l.feed.source) l.feed.buffer;
}
