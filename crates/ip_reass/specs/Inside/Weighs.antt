-- What the flat machine's map of fragments weighs (this project's own).
use Rattle.std.proofs.Common.{◌≡◌, ℕ, zero, suc, ◌+◌, ◌<◌, ◌≤◌, List, [], ◌∷◌, map, filter_map, Some, refl, sym, ap, ◌∙◌, subst, inl, inr, arith}
use Rattle.std.specs.List.{range_with_len, cons_option}
use Rattle.std.proofs.lemmas.Bool.{cases_lt, eq-eqb, ne_eqb, cond-true, cond-false}
use Rattle.params.specs.declared.TheConstants.{IP_MAX_DATA}
use Rattle.flat_model.specs.Amounts.Weight.{Weight, all_of, ◌⊕◌}
use Rattle.flat_model.specs.Fragments.Overlay.{Piece, Map}
use Rattle.flat_model.specs.Fragments.Whole.{piece_at, pieces_below, pieces, weight_of_pieces}
use Rattle.flat_model.specs.Fragments.Overlay.{Fragment}
use Rattle.ip_reass.specs.Fragments.{end_of_fragment, piece_of, map_of, Apart, AllEnd}
use Rattle.ip_reass.specs.Inside.Known.{known_here, known_past, below, within, past, known_place, nothing_below, apart_lower}

abbrev pub firsts : (bytes : Map) (at n : ℕ) → List Piece
firsts bytes at n = filter_map (λ k. piece_at k (bytes k)) (range_with_len at n)

firsts_same : (a b : Map) (at n : ℕ) → ((k : ℕ) → at ≤ k → piece_at k (a k) ≡ piece_at k (b k))
    → firsts a at n ≡ firsts b at n
firsts_same a b at zero h = refl
firsts_same a b at (suc n) h = λ i. cons_option (h at (omega arith) i)
    (firsts_same a b (at + 1) n (λ k l. h k (omega arith)) i)

-- a fragment has no piece at an offset above its first one
hidden : (p : Fragment) (ps : List Fragment) (k : ℕ) → Apart (end_of_fragment p) ps → p.offset < k
    → piece_at k (map_of (p ∷ ps) k) ≡ piece_at k (map_of ps k)
hidden p ps k a l = elim (known_place p k) [
  | below b ↦ absurd (omega arith)
  | past b ↦ ap (piece_at k) (known_past p ps k b)
  | within b c ↦ ap (piece_at k) (known_here p ps k b c)
      ∙ (cond-false _ _ _ (ne_eqb p.offset k (λ e. absurd (omega arith)))
      ∙ ap (piece_at k) (sym (nothing_below (end_of_fragment p) ps k a c)))
]

pub firsts_are : (n at : ℕ) (ps : List Fragment) → Apart at ps → AllEnd (at + n) ps
    → firsts (map_of ps) at n ≡ map piece_of ps
firsts_are zero at [] a e = refl
firsts_are zero at (p ∷ ps) a e = absurd (omega arith)
firsts_are (suc n) at [] a e = firsts_are n (at + 1) [] tt tt
firsts_are (suc n) at (p ∷ ps) a e = elim (cases_lt at p.offset) [
  | inl l ↦
      (λ i. cons_option (piece_at at (nothing_below p.offset (p ∷ ps) at (omega arith, a.1, a.2) l i))
      (firsts (map_of (p ∷ ps)) (at + 1) n))
      ∙ firsts_are n (at + 1) (p ∷ ps) (omega arith, a.1, a.2) (more (p ∷ ps) e)
  | inr l ↦
      let here : piece_at at (map_of (p ∷ ps) at) ≡ Some (piece_of p) =
      ap (piece_at at) (known_here p ps at (omega arith) (omega arith))
      ∙ cond-true _ _ _ (eq-eqb p.offset at (omega arith)) in
      (λ i. cons_option (here i) (firsts_same (map_of (p ∷ ps)) (map_of ps) (at + 1) n
      (λ k m. hidden p ps k a.2 (omega arith)) i))
      ∙ ap (λ (qs : List Piece). piece_of p ∷ qs)
      (firsts_are n (at + 1) ps (apart_lower (end_of_fragment p) (at + 1) ps (omega arith) a.2) (more (p ∷ ps) e).1)
]
  where
    more : (qs : List Fragment) → AllEnd (at + suc n) qs → AllEnd (at + 1 + n) qs
    more qs e = subst (λ (m : ℕ). AllEnd m qs) (omega arith) e

below_are : (most : ℕ) (ps : List Fragment) → Apart 0 ps → AllEnd most ps
    → pieces_below most (map_of ps) ≡ map piece_of ps
unfolding pieces_below
below_are most ps a e = firsts_are most 0 ps a (subst (λ (m : ℕ). AllEnd m ps) (omega arith) e)

-- **the pieces of the map are the fragments**
pub pieces_are : (ps : List Fragment) → Apart 0 ps → AllEnd IP_MAX_DATA ps → pieces (map_of ps) ≡ map piece_of ps
pieces_are ps a e = below_are IP_MAX_DATA ps a e

all-map : (ps : List Fragment) → all_of (λ (q : Piece). q.weight) (map piece_of ps)
    ≡ all_of (λ (p : Fragment). p.weight) ps
all-map [] = refl
all-map (p ∷ ps) = ap (λ (w : Weight). p.weight ⊕ w) (all-map ps)

-- **they weigh what the fragments weigh**
pub weight_is : (ps : List Fragment) → Apart 0 ps → AllEnd IP_MAX_DATA ps
    → weight_of_pieces (map_of ps) ≡ all_of (λ (p : Fragment). p.weight) ps
weight_is ps a e = ap (all_of (λ (q : Piece). q.weight)) (pieces_are ps a e) ∙ all-map ps
