use Rattle.std.proofs.Common.{◌≡◌, ℕ, List, [], ◌∷◌, ◌++◌, ap, ap₂, sym, ◌∙◌, arith}
use Rattle.std.proofs.lemmas.List.FromFn.{map-range_with_len_more}
use Rattle.flat_model.specs.Fragments.Whole.{byte_of, bytes_below}
use Rattle.play_why.specs.Joined.{spots_map}
use Rattle.play_why.proofs.joined.put_bytes.Goals as goal

pub places-preserved : goal.places-preserved
places-preserved c = record {
  items =
      c.push.ensures.items
      ∙ ap₂ (λ (bytes : List ℕ) (byte : ℕ). bytes ++ byte ∷ []) c.places.invariant.items c.byte_in.ensures
      ∙ sym (map-range_with_len_more (λ offset. byte_of (spots_map c.args.spots.now offset)) 0 c.places.k c.places.k
      (omega arith));
  len = omega (arith, c.push.ensures.len, c.places.invariant.len);
}

pub returns : goal.returns
returns c =
    let same : c.places.k ≡ c.args.reach = omega arith in
    c.places.invariant.items ∙ ap (λ (n : ℕ). bytes_below (spots_map c.args.spots.now) n) same
