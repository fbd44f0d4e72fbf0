use Rattle.std.proofs.Common.{◌<◌, ◌≢◌, ◌∙◌, length, arith, get_or-set_other, get_or-set_same, below_more}
use Rattle.std.proofs.lemmas.List.{length-set}
use Rattle.play_show.proofs.changes.delivered_between.Goals as goal

pub places-preserved : goal.places-preserved
places-preserved c = record {
  len = length-set c.places.delivered c.places.place c.is_delivered.result ∙ c.places.invariant.len;
  compared = below_more _ _
      (λ k h. let ne : k ≢ c.places.place = omega arith in rw get_or-set_other (c.places.invariant.compared k h))
      (let lt : c.places.place < length c.places.delivered = omega (arith, c.places.invariant.len, c.places-test.true) in
      rw get_or-set_same c.is_delivered.ensures);
}
