use Rattle.std.proofs.Common.{◌≡◌, length, map, arith}
use Rattle.std.specs.Prelude.{slice_get}
use Rattle.ether_host.specs.Inside.{link_seen}
use Rattle.segment.specs.Frames.{frames_received}
use Rattle.segment.specs.Inside.{flying}
use Rattle.segment.specs.Tallies.{with_received}
use Rattle.segment.proofs.Walking.{walk_on, walk_ends}
use Rattle.segment.proofs.links.count_frames.Goals as goal

pub loop-place-preserved : goal.loop-place-preserved
loop-place-preserved c =
    let s = c.index.result.now in
    walk_on (λ place t u. u ≡ with_received
    (length (frames_received place (slice_get (map link_seen c.args.links.now) place) (map flying c.args.due.now)))
    t) c.args.tallies.now.items c.loop-place.tallies.items c.loop-place.place
    s c.counted.result s c.loop-place.invariant (omega arith) c.index.ensures c.counted.ensures

pub returns : goal.returns
returns c =
    walk_ends (λ place t u. u ≡ with_received
    (length (frames_received place (slice_get (map link_seen c.args.links.now) place) (map flying c.args.due.now)))
    t) c.args.tallies.now.items c.loop-place.tallies.items c.loop-place.place
    c.loop-place.invariant (omega arith)
