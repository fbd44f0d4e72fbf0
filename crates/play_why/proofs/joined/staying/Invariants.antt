use Rattle.std.proofs.Common.{◌≡◌, ◌≤◌}
use Rattle.std.specs.Prelude.{count_by}
use Rattle.std.specs.List.{range_with_len}
use Rattle.flat_model.specs.Fragments.Overlay.{stays}
use Rattle.play_why.specs.Joined.{spots_map}
use Rattle.play_why.proofs.joined.staying.Given as goal

abbrev pub invariant-places : goal.invariant-places
invariant-places l = record {
  number : l.count ≡ count_by (λ k. stays l.offset (spots_map l.spots k)) (range_with_len l.offset l.place);
  most : l.count ≤ l.place;
}
