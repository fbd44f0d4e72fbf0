use Rattle.std.proofs.Common.{◌≡◌, length, map}
use Rattle.ether_host.specs.Inside.{link_seen}
use Rattle.segment.specs.Frames.{frames_below, frames_given, hosts_of}
use Rattle.segment.specs.Inside.{AreSentBy}
use Rattle.segment.specs.declared.links.TheConstants.{FRAMES}
use Rattle.segment.proofs.Framing.{HaveGone}
use Rattle.segment.proofs.links.collect_frames.Given as goal

abbrev pub invariant-loop-place : goal.invariant-loop-place
invariant-loop-place g l = record {
  gone : HaveGone (λ place h k. k ≡ (frames_given FRAMES h).1) l.fn.stacks.items l.fn.links.items l.stacks.items
      l.links.items l.place;
  sent : AreSentBy l.fn.flight l.fn.impairment
      (frames_below (hosts_of l.fn.stacks.items (map link_seen l.fn.links.items)) l.place) l.flight l.impairment;
  end : l.place-end ≡ length l.fn.links.items;
}
