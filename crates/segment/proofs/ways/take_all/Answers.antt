use Rattle.std.proofs.Common.{◌≡◌, ◌∙◌, ◌++◌, ap, sym, subst, take, drop, add-one, arith}
use Rattle.std.proofs.lemmas.List.{take_all}
use Rattle.segment.specs.Flying.{sent_by, waiting}
use Rattle.segment.specs.Inside.{AreSentBy}
use Rattle.segment.proofs.Entering.{more_enter}
use Rattle.segment.proofs.Taking.{drop_next, more_calls, sent_next}
use Rattle.segment.proofs.ways.take_all.Goals as goal

pub loop-preserved : goal.loop-preserved
loop-preserved g c =
    let i = c.loop.counter in
    let all = waiting c.args.stack.now in
    let inv = c.loop.invariant in
    rw add-one (record {
      calls =
          more_calls c.args.stack.now c.loop.stack c.take_one.new.stack all i inv.calls
          (rw inv.waits at c.take_one.ensures.calls);
      waits = c.take_one.ensures.waits ∙ ap (drop 1) inv.waits ∙ sym (drop_next i all);
      sent =
          more_enter inv.sent c.take_one.ensures.sent
          (sent_next c.args.sender i all
          ∙ ap (λ ps. sent_by c.args.sender (take i all) ++ sent_by c.args.sender (take 1 ps)) (sym inv.waits));
      end = inv.end;
    })

pub returns-clause-sent : goal.returns-clause-sent
returns-clause-sent g c =
    let all = waiting c.args.stack.now in
    let taken : take c.loop.counter all ≡ all =
    take_all c.loop.counter all (omega (arith, c.loop.invariant.end)) in
    subst (λ ps. AreSentBy c.args.flight.now c.args.impairment.now (sent_by c.args.sender ps) c.loop.flight
    c.loop.impairment) taken c.loop.invariant.sent
