use Rattle.std.proofs.Common.{◌≡◌, length, map}
use Rattle.std.specs.Prelude.{slice_get}
use Rattle.ether_host.specs.Inside.{link_seen}
use Rattle.segment.specs.Frames.{frames_received}
use Rattle.segment.specs.Inside.{flying}
use Rattle.segment.specs.Tallies.{with_received}
use Rattle.segment.proofs.Walking.{IsWalked}
use Rattle.segment.proofs.links.count_frames.Given as goal

abbrev pub invariant-loop-place : goal.invariant-loop-place
invariant-loop-place l =
    IsWalked (λ place t u. u
    ≡ with_received (length (frames_received place (slice_get (map link_seen l.links) place) (map flying l.due))) t)
    l.fn.tallies.items l.tallies.items l.place
