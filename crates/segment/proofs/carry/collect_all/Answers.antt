use Rattle.std.proofs.Common.{◌≡◌, length, subst, arith}
use Rattle.net_stack.specs.Runs.{AreCalls}
use Rattle.segment.specs.Flying.{transmits_of, waiting}
use Rattle.segment.specs.Segment.{given_below}
use Rattle.segment.specs.Inside.{AreSentBy}
use Rattle.segment.proofs.Entering.{more_enter}
use Rattle.segment.proofs.Walking.{walk_on, walk_ends}
use Rattle.segment.proofs.Giving.{given_next}
use Rattle.segment.proofs.carry.collect_all.Goals as goal

pub loop-place-preserved : goal.loop-place-preserved
loop-place-preserved g c =
    let inv = c.loop-place.invariant in
    let s = c.index_mut.result.now in
    let t = c.take_all.new.stack in
    record {
      walked =
          walk_on (λ place x y. AreCalls x (transmits_of (waiting x)) y) c.args.stacks.now.items
          c.loop-place.stacks.items
          c.loop-place.place s t s inv.walked (omega arith) c.index_mut.ensures.value c.take_all.ensures.calls;
      sent =
          more_enter inv.sent c.take_all.ensures.sent
          (given_next c.loop-place.place c.args.stacks.now.items c.loop-place.stacks.items s s inv.walked (omega arith)
          c.index_mut.ensures.value);
    }

pub returns-clause-hosts : goal.returns-clause-hosts
returns-clause-hosts g c =
    walk_ends (λ place x y. AreCalls x (transmits_of (waiting x)) y) c.args.stacks.now.items c.loop-place.stacks.items
    c.loop-place.place c.loop-place.invariant.walked (omega arith)

pub returns-clause-sent : goal.returns-clause-sent
returns-clause-sent g c =
    let all : c.loop-place.place ≡ length c.args.stacks.now.items = omega arith in
    subst (λ n. AreSentBy c.args.flight.now c.args.impairment.now (given_below c.args.stacks.now.items n)
    c.loop-place.flight c.loop-place.impairment) all c.loop-place.invariant.sent
