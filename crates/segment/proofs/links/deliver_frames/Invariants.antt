use Rattle.std.proofs.Common.{◌≡◌, length, map}
use Rattle.segment.specs.Frames.{ReceiveEach, frames_to}
use Rattle.segment.specs.Inside.{flying}
use Rattle.segment.proofs.Framing.{HaveGone}
use Rattle.segment.proofs.links.deliver_frames.Given as goal

abbrev pub invariant-loop-place : goal.invariant-loop-place
invariant-loop-place g l = record {
  gone : HaveGone (λ place h k. ReceiveEach (frames_to place h.link.link.mac (map flying l.due)) h k)
      l.fn.stacks.items l.fn.links.items l.stacks.items l.links.items l.place;
  end : l.place-end ≡ length l.fn.links.items;
}
