use Rattle.std.proofs.Common.{◌≡◌, length, sym, ap, ◌∙◌, arith}
use Rattle.flat_model.specs.declared.counters.Why.TheVariants.{TooSmall}
use Rattle.play_text.proofs.Laws.{mapped, table_of}
use Rattle.play_text.specs.Tables.{never_for, drops_added, row_after}
use Rattle.play_text.specs.declared.words.TheConstants.{CAUSES}
use Rattle.play_text.proofs.table.Table.count_record.Goals as goal

pub returns : goal.returns
unfolding drops_added
returns c =
    let old = c.args.self.now.rows in
    let all : length old ≡ CAUSES = c.places.invariant.was in
    let len = c.places.invariant.len in
    let end = c.places-test.false in
    ap table_of
    (mapped (row_after c.args.number c.args.before.now c.args.after.now) old c.places.self.rows (never_for TooSmall)
    (never_for TooSmall) (len ∙ sym all) (λ k h. c.places.invariant.counted k (omega (arith, h, all, end))))
