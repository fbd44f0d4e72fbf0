use Rattle.std.proofs.Common.{◌≡◌, arith, subst, replicate}
use Rattle.segment.specs.Inside.{view}
use Rattle.segment.specs.Law.{AreActs, Ether, TicksHost}
use Rattle.play_wire.proofs.ActLemmas.{none_ticked, one_ticked}
use Rattle.play_wire.proofs.ticks.tick_linked.Goals as goal

pub loop-ticked-init : goal.loop-ticked-init
loop-ticked-init c = record { ticked = none_ticked c.args.place (view c.args.segment.now) c.requires; most = omega arith }

pub loop-ticked-preserved : goal.loop-ticked-preserved
loop-ticked-preserved c = record {
  ticked =
      one_ticked c.args.place c.loop-ticked.ticked (view c.args.segment.now) (view c.loop-ticked.segment)
      (view c.tick_host.new.self) c.tick_host.result c.loop-ticked.invariant.ticked c.tick_host.ensures.is
      c.tick_host.ensures.ticked;
  most = omega (arith, c.loop-ticked-test.true);
}

pub returns : goal.returns
returns c =
    let all : c.loop-ticked.ticked ≡ c.args.count = omega (arith, c.loop-ticked.invariant.most, c.loop-ticked-test.false) in
    subst (λ n. AreActs (view c.args.segment.now) (replicate n (Ether (TicksHost c.args.place)))
    (view c.loop-ticked.segment)) all c.loop-ticked.invariant.ticked.acts
