use Rattle.std.proofs.Common.{List, length, map, sym, ap, ◌∙◌, arith}
use Rattle.flat_model.specs.declared.counters.Why.{Why}
use Rattle.flat_model.specs.declared.counters.Why.TheVariants.{TooSmall}
use Rattle.play_text.proofs.Laws.{mapped, table_of}
use Rattle.play_text.specs.Tables.{never_for, no_drops}
use Rattle.play_text.proofs.table.Table.new.Goals as goal

pub returns : goal.returns
unfolding no_drops
returns c =
    let whys : List Why = c.causes-whys.result in
    let all = ap (λ (ws : List Why). length ws) c.causes-whys.ensures in
    let len = c.places.invariant.len in
    let end = c.places-test.false in
    ap table_of
    (mapped never_for whys c.places.rows TooSmall (never_for TooSmall) (len ∙ sym all)
    (λ k h. c.places.invariant.made k (omega (arith, h, all, end)))
    ∙ ap (λ (ws : List Why). map never_for ws) c.causes-whys.ensures)
