use Rattle.std.proofs.Common.{ap, arith}
use Rattle.segment.proofs.Framing.{all_gone, one_gone, past_gone}
use Rattle.segment.proofs.links.deliver_frames.Goals as goal
use Rattle.segment.proofs.links.deliver_frames.Goals.{then-place-len, else-place-len}

pub loop-place-preserved : goal.loop-place-preserved
loop-place-preserved g c =
    let inv = c.loop-place.invariant in
    elim c.if-place-len.branch [
      | then-place-len w ↦ record {
        gone =
            one_gone inv.gone w.index_mut.result.now w.hand_frames.new.stack w.index_mut-then-place-len.result.now
            w.hand_frames.new.link (omega (arith, c.len.ensures, w.if-place-len.true)) (omega (arith, inv.end))
            w.index_mut.ensures.value w.index_mut-then-place-len.ensures.value w.hand_frames.ensures
            (ap (λ v. v.items) w.stacks-is) (ap (λ v. v.items) w.links-is);
        end = inv.end;
      }
      | else-place-len w ↦ record {
        gone =
            past_gone inv.gone (omega (arith, c.len.ensures, w.if-place-len.false)) (ap (λ v. v.items) w.stacks-is)
            (ap (λ v. v.items) w.links-is);
        end = inv.end;
      }
    ]

pub returns : goal.returns
returns g c = all_gone c.loop-place.invariant.gone (omega (arith, c.loop-place.invariant.end))
