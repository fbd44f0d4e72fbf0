use Rattle.std.proofs.Common.{◌<◌, ◌≢◌, List, false, length, map, sym, ap, ◌∙◌, arith, get_or-set_other, get_or-set_same, below_more}
use Rattle.std.proofs.lemmas.List.{length-set}
use Rattle.flat_model.specs.declared.counters.Why.{Why}
use Rattle.flat_model.specs.declared.counters.Why.TheVariants.{TooSmall}
use Rattle.play_text.proofs.Laws.{mapped}
use Rattle.play_text.specs.Fates.{is_dropped_for}
use Rattle.play_text.proofs.fate.drops_between.Goals as goal

pub returns : goal.returns
returns c =
    let whys : List Why = c.causes-whys.result in
    let all = ap (λ (ws : List Why). length ws) c.causes-whys.ensures in
    let len = c.places.invariant.len in
    let end = c.places-test.false in
    let dropped = is_dropped_for c.args.before.now c.args.after.now in
    mapped dropped whys c.places.drops TooSmall false (len ∙ sym all)
    (λ k h. c.places.invariant.made k (omega (arith, h, all, end)))
    ∙ ap (λ (ws : List Why). map dropped ws) c.causes-whys.ensures

pub places-preserved : goal.places-preserved
places-preserved c = record {
  len = length-set c.places.drops c.places.place c.is_dropped_for.result ∙ c.places.invariant.len;
  made = below_more _ _
      (λ k h. let ne : k ≢ c.places.place = omega arith in rw get_or-set_other (c.places.invariant.made k h))
      (let lt : c.places.place < length c.places.drops = omega (arith, c.places.invariant.len, c.places-test.true) in
      rw get_or-set_same c.is_dropped_for.ensures);
}
