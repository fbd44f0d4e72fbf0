use Rattle.std.proofs.Common.{◌≡◌, length, arith}
use Rattle.segment.specs.Inside.{arriving_at, flying}
use Rattle.segment.specs.Tallies.{with_received}
use Rattle.segment.proofs.Delivering.{none_walked, walk_changed}
use Rattle.segment.proofs.Walking.{walk_ends}
use Rattle.segment.proofs.deliver.count_due.Goals as goal

pub loop-place-init : goal.loop-place-init
loop-place-init c =
    none_walked
    (λ place t u. u
    ≡ with_received (length (arriving_at place c.args.directory.now.configs.items (flying c.args.frame.now))) t)
    c.args.tallies.now.items

pub loop-place-preserved : goal.loop-place-preserved
loop-place-preserved c =
    walk_changed
    (λ place t u. u
    ≡ with_received (length (arriving_at place c.args.directory.now.configs.items (flying c.args.frame.now))) t)
    c.args.tallies.now.items c.loop-place.tallies.items c.count_at-in-loop-place.new.tallies.items c.loop-place.place
    c.loop-place.invariant c.count_at-in-loop-place.ensures

pub returns : goal.returns
returns c =
    walk_ends
    (λ place t u. u
    ≡ with_received (length (arriving_at place c.args.directory.now.configs.items (flying c.args.frame.now))) t)
    c.args.tallies.now.items c.loop-place.tallies.items c.loop-place.place c.loop-place.invariant (omega arith)
