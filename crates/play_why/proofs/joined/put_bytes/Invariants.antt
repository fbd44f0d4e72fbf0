use Rattle.std.proofs.Common.{◌≡◌, length, map}
use Rattle.std.specs.List.{range_with_len}
use Rattle.flat_model.specs.Fragments.Whole.{byte_of}
use Rattle.play_why.specs.Joined.{spots_map}
use Rattle.play_why.proofs.joined.put_bytes.Given as goal

abbrev pub invariant-places : goal.invariant-places
invariant-places l = record {
  items : l.bytes ≡ map (λ offset. byte_of (spots_map l.spots offset)) (range_with_len 0 l.k);
  len : length l.bytes ≡ l.k;
}
