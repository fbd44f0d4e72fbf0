-- A part of a cut is a stretch of it.
use Rattle.std.proofs.Common.{◌≡◌, ℕ, ◌+◌, ◌*◌, ◌<◌, ◌≤◌, List, length, sym, ◌∙◌, ap, subst, arith}
use Rattle.std.specs.Prelude.{Contains}
use Rattle.std.proofs.lemmas.Bool.{ltb-false}
use Rattle.flat_model.specs.Fragments.Cuts.{Part, cuts}
use Rattle.flat_model.specs.Fragments.Overlay.{Fragment, fragment_end}
use Rattle.flat_model.specs.Runs.Laws.{bytes_of_part}
use Rattle.flat_model.proofs.Laws.{chunks_needed}
use Rattle.flat_wire.proofs.Grid.{cuts_grid, index_of}
use Rattle.flat_wire.proofs.Inserting.{IsCut, end_of, fragment_end_is, brought_byte}
use Rattle.flat_wire.proofs.Maps.{IsStretch}

pub part_is_stretch : (t : List ℕ) (mtu : ℕ) (p : Part) (f : Fragment) → 0 < length t → 28 ≤ mtu
    → Contains (cuts (length t) mtu) p
    → f.offset ≡ p.offset → f.bytes ≡ bytes_of_part t p → f.more ≡ p.more → IsStretch t f
part_is_stretch t mtu p f some low is offset bytes more =
    let g = cuts_grid (length t) mtu some low in
    let at = index_of (length t) g.0 p g.1 (subst (λ (ps : List Part). Contains ps p) g.2 is) in
    let cut : IsCut t g.0 f at.0 = record {
      inside = chunks_needed (length t) g.0 at.0 g.1 at.1;
      offset = offset ∙ ap (λ (q : Part). q.offset) at.2;
      bytes = bytes ∙ ap (bytes_of_part t) at.2;
      more = more ∙ ap (λ (q : Part). q.more) at.2;
    } in
    go g.0 g.1 at.0 cut
  where
    go : (c : ℕ) → 0 < c → (i : ℕ) → IsCut t c f i → IsStretch t f
    go c positive i cut =
        let end : fragment_end f ≡ end_of (length t) c i = fragment_end_is t c f i cut in
        record {
          some = omega (arith, cut.inside, cut.offset);
          fits = omega (arith, cut.inside);
          bytes =
              λ o low high. brought_byte t c f i o cut (record { low = omega (arith, cut.offset); high = omega arith });
          last = λ e. let past : length t ≤ (i + 1) * c = ltb-false _ _ (sym cut.more ∙ e) in omega (arith, cut.inside);
        }
