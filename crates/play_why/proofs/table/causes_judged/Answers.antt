use Rattle.std.proofs.Common.{◌≡◌, length, sym, ap, ◌∙◌, arith}
use Rattle.flat_model.specs.declared.counters.Why.TheVariants.{TooSmall}
use Rattle.play_text.proofs.Laws.{mapped, table_of}
use Rattle.play_text.specs.Tables.{never_for}
use Rattle.play_text.specs.declared.words.TheConstants.{CAUSES}
use Rattle.play_why.specs.Verdicts.{causes_judged, row_judged}
use Rattle.play_why.proofs.table.causes_judged.Goals as goal

pub returns : goal.returns
unfolding causes_judged
returns c =
    let old = c.args.table.rows in
    let all : length old ≡ CAUSES = c.places.invariant.was in
    let len = c.places.invariant.len in
    let end = c.places-test.false in
    ap table_of
    (mapped (row_judged c.args.seen.now c.args.before.now c.args.after.now) old c.places.rows (never_for TooSmall)
    (never_for TooSmall) (len ∙ sym all) (λ k h. c.places.invariant.judged k (omega (arith, h, all, end))))
