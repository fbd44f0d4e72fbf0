use Rattle.std.proofs.Common.{arith, sym, ◌∙◌, ap, ◌+◌, map, ◌-◌, ◌*◌, ◌/◌}
use Rattle.std.specs.List.{range_with_len}
use Rattle.std.proofs.lemmas.Result.{err_from_is_err_and}
use Rattle.flat_model.specs.Fragments.Cuts as Cuts
use Rattle.flat_plain.specs.Parts.{part_of}
use Rattle.flat_plain.proofs.Cutting.{cut_short, cut_long, cut_step}
use Rattle.flat_plain.proofs.parts.cuts.Goals as goal

pub returns-then-n-mtu-clause-parts : goal.returns-then-n-mtu-clause-parts
returns-then-n-mtu-clause-parts c =
    ap (map part_of) c.in_ok-push.ensures.items
    ∙ rw c.new-parts.ensures.items (sym (cut_short c.args.n c.args.mtu (omega arith)))

pub loop-i-preserved : goal.loop-i-preserved
loop-i-preserved c = (
  cut_step c.loop-i.parts.items c.push-in-loop-i.new.self.items c.part_at.result c.args.n ((c.args.mtu - 20) / 8 * 8)
      c.loop-i.i c.loop-i.invariant.0 c.in_ok-push-2.ensures.items c.part_at.ensures,
  c.in_ok-push-2.ensures.len ∙ ap (λ k. k + 1) c.loop-i.invariant.1,
)

pub returns-clause-parts : goal.returns-clause-parts
returns-clause-parts c =
    c.loop-i.invariant.0
    ∙ ap (λ k. map (Cuts.part c.args.n ((c.args.mtu - 20) / 8 * 8)) (range_with_len 0 k)) (omega arith)
    ∙ sym (cut_long c.args.n c.args.mtu (omega arith))

pub returns-in_err-push-clause-parts : goal.returns-in_err-push-clause-parts
returns-in_err-push-clause-parts c = rw (err_from_is_err_and c.from_residual.result c.from_residual.ensures.1).1 tt

pub returns-in_err-push-clause-len : goal.returns-in_err-push-clause-len
returns-in_err-push-clause-len c = rw (err_from_is_err_and c.from_residual.result c.from_residual.ensures.1).1 tt

pub returns-in_err-push-2-clause-parts : goal.returns-in_err-push-2-clause-parts
returns-in_err-push-2-clause-parts c =
    rw (err_from_is_err_and c.from_residual-in_err-push-2.result c.from_residual-in_err-push-2.ensures.1).1 tt

pub returns-in_err-push-2-clause-len : goal.returns-in_err-push-2-clause-len
returns-in_err-push-2-clause-len c =
    rw (err_from_is_err_and c.from_residual-in_err-push-2.result c.from_residual-in_err-push-2.ensures.1).1 tt
