use Rattle.std.proofs.Common.{◌-◌, List, ℕ}
use Rattle.ether_host.specs.Inside.{link_seen}
use Rattle.ether_host.specs.View.{halves}
use Rattle.segment.specs.Flying.{sent_by}
use Rattle.segment.specs.Inside.{AreSentBy}
use Rattle.segment.specs.declared.links.TheConstants.{FRAMES}
use Rattle.segment.proofs.Framing.{IsSoFar}
use Rattle.segment.proofs.links.take_frames.Given as goal

abbrev pub invariant-loop : goal.invariant-loop
invariant-loop g l = record {
  given : List (List ℕ);
  so_far : IsSoFar FRAMES (halves l.fn.stack (link_seen l.fn.link)) (FRAMES - l.counter)
      (halves l.stack (link_seen l.link))
      given;
  sent : AreSentBy l.fn.flight l.fn.impairment (sent_by l.sender given) l.flight l.impairment;
}
