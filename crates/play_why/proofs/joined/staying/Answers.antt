use Rattle.std.proofs.Common.{◌≡◌, ℕ, refl, ap, ◌∙◌, arith}
use Rattle.std.specs.Prelude.{count_by}
use Rattle.std.specs.List.{range_with_len}
use Rattle.flat_model.specs.Fragments.Overlay.{stays}
use Rattle.play_why.specs.Joined.{spots_map}
use Rattle.play_why.proofs.JoinLemmas.{count_more, one_more_most}
use Rattle.play_why.proofs.joined.staying.Goals as goal

pub places-preserved : goal.places-preserved
places-preserved c = record {
  number =
      count_more (λ k. stays c.args.offset (spots_map c.args.spots.now k)) c.args.offset c.places.place c.places.count
      c.counted-count.result _ refl c.places.invariant.number c.counted-count.ensures;
  most = one_more_most _ c.places.count c.counted-count.result c.places.place c.counted-count.ensures
      c.places.invariant.most;
}

pub returns-clause-number : goal.returns-clause-number
returns-clause-number c =
    let same : c.places.place ≡ c.args.len = omega arith in
    c.places.invariant.number
    ∙ ap (λ (n : ℕ). count_by (λ k. stays c.args.offset (spots_map c.args.spots.now k)) (range_with_len c.args.offset n))
    same
