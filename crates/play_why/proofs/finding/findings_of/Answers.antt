use Rattle.std.proofs.Common.{◌<◌, ◌≢◌, List, None, length, map, sym, ap, ◌∙◌, arith, get_or-set_other, get_or-set_same, below_more}
use Rattle.std.proofs.lemmas.List.{length-set}
use Rattle.flat_model.specs.declared.counters.Why.{Why}
use Rattle.flat_model.specs.declared.counters.Why.TheVariants.{TooSmall}
use Rattle.play_text.proofs.Laws.{mapped}
use Rattle.play_why.specs.Findings.{finding_if}
use Rattle.play_why.proofs.finding.findings_of.Goals as goal

pub returns : goal.returns
returns c =
    let whys : List Why = c.causes-whys.result in
    let all = ap (λ (ws : List Why). length ws) c.causes-whys.ensures in
    let len = c.places.invariant.len in
    let end = c.places-test.false in
    let found = finding_if c.args.seen.now c.args.counted.now.before.now c.args.counted.now.after.now c.args.ours in
    mapped found whys c.places.found TooSmall None (len ∙ sym all)
    (λ k h. c.places.invariant.made k (omega (arith, h, all, end)))
    ∙ ap (λ (ws : List Why). map found ws) c.causes-whys.ensures

pub places-preserved : goal.places-preserved
places-preserved c = record {
  len = length-set c.places.found c.places.place c.finding_if.result ∙ c.places.invariant.len;
  made = below_more _ _
      (λ k h. let ne : k ≢ c.places.place = omega arith in rw get_or-set_other (c.places.invariant.made k h))
      (let lt : c.places.place < length c.places.found = omega (arith, c.places.invariant.len, c.places-test.true) in
      rw get_or-set_same c.finding_if.ensures);
}
