use Rattle.std.proofs.Common.{take, map}
use Rattle.ether_host.specs.Inside.{link_seen}
use Rattle.ether_host.specs.View.{halves}
use Rattle.segment.specs.Frames.{ReceiveEach, frames_to}
use Rattle.segment.specs.Inside.{flying}
use Rattle.segment.proofs.links.hand_frames.Given as goal

abbrev pub invariant-loop-at : goal.invariant-loop-at
invariant-loop-at g l =
    ReceiveEach (frames_to l.place (link_seen l.fn.link).link.mac (map flying (take l.at l.due)))
    (halves l.fn.stack (link_seen l.fn.link)) (halves l.stack (link_seen l.link))
