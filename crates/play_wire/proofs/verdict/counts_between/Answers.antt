use Rattle.std.proofs.Common.{◌<◌, ◌≢◌, List, false, length, map, sym, ap, ◌∙◌, arith, get_or-set_other, get_or-set_same, below_more}
use Rattle.std.proofs.lemmas.List.{length-set}
use Rattle.play_text.proofs.Laws.{mapped}
use Rattle.play_wire.specs.Verdicts.{is_counted}
use Rattle.play_wire.specs.declared.link_count.LinkCount.{LinkCount}
use Rattle.play_wire.specs.declared.link_count.LinkCount.TheVariants.{Ignored}
use Rattle.play_wire.proofs.verdict.counts_between.Goals as goal

pub returns : goal.returns
returns c =
    let which : List LinkCount = c.link_counts-which.result in
    let all = ap (λ (ws : List LinkCount). length ws) c.link_counts-which.ensures in
    let len = c.places.invariant.len in
    let end = c.places-test.false in
    let counted = is_counted c.args.before.now c.args.after.now in
    mapped counted which c.places.counted Ignored false (len ∙ sym all)
    (λ k h. c.places.invariant.made k (omega (arith, h, all, end)))
    ∙ ap (λ (ws : List LinkCount). map counted ws) c.link_counts-which.ensures

pub places-preserved : goal.places-preserved
places-preserved c = record {
  len = length-set c.places.counted c.places.place c.is_counted.result ∙ c.places.invariant.len;
  made = below_more _ _
      (λ k h. let ne : k ≢ c.places.place = omega arith in rw get_or-set_other (c.places.invariant.made k h))
      (let lt : c.places.place < length c.places.counted = omega (arith, c.places.invariant.len, c.places-test.true) in
      rw get_or-set_same c.is_counted.ensures);
}
