-- The map at an offset after an overlay, case by case.
use Rattle.std.proofs.Common.{◌≡◌, ℕ, suc, zero, ◌+◌, ◌-◌, ◌<◌, ◌≤◌, Bool, true, false, length, refl, sym, ◌∙◌, ap, arith, Some, None, cond}
use Rattle.std.specs.Prelude.{nat_lt, nat_le, ◌&&◌, count_by, slice_index}
use Rattle.std.specs.List.{range_with_len}
use Rattle.std.proofs.lemmas.List.Sums.{sum_by-cons}
use Rattle.std.proofs.lemmas.Bool.{le-ltb}
use Rattle.flat_model.specs.Fragments.Overlay.{Held, Map, Fragment, fragment_end, stays, is_within, first_owned, overlay}

module _ (map : Map) (f : Fragment) (k : ℕ) where
  pub place_new : map k ≡ None → is_within f k ≡ true → (first : ℕ) → first_owned map f ≡ first
      → Some (record {
        byte = slice_index f.bytes (k - f.offset);
        piece = record { first = first; more = f.more; weight = f.weight };
      }) ≡ overlay map f k
  unfolding overlay
  place_new e w first o = rw (w, e, o) refl

  pub place_none : map k ≡ None → is_within f k ≡ false → None ≡ overlay map f k
  unfolding overlay
  place_none e w = rw (w, e) refl

  pub place_kept : (h : Held) → map k ≡ Some h → is_within f k ≡ true → nat_le h.piece.first f.offset ≡ true
      → Some h ≡ overlay map f k
  unfolding overlay
  place_kept h e w s = rw (w, e, s) refl

  pub place_over : (h : Held) → map k ≡ Some h → is_within f k ≡ true → nat_le h.piece.first f.offset ≡ false
      → (first : ℕ) → first_owned map f ≡ first
      → Some (record {
        byte = slice_index f.bytes (k - f.offset);
        piece = record { first = first; more = f.more; weight = f.weight };
      }) ≡ overlay map f k
  unfolding overlay
  place_over h e w s first o = rw (w, e, s, o) refl

  pub place_cut : (h : Held) → map k ≡ Some h → is_within f k ≡ false
      → (nat_lt f.offset h.piece.first && nat_lt h.piece.first (fragment_end f)) ≡ true
      → Some (record h { piece = record (h.piece) { first = fragment_end f } }) ≡ overlay map f k
  unfolding overlay
  place_cut h e w s = rw (w, e, s) refl

  pub place_same : (h : Held) → map k ≡ Some h → is_within f k ≡ false
      → (nat_lt f.offset h.piece.first && nat_lt h.piece.first (fragment_end f)) ≡ false → Some h ≡ overlay map f k
  unfolding overlay
  place_same h e w s = rw (w, e, s) refl

pub owned_is : (map : Map) (f : Fragment) (n : ℕ)
    → n ≡ count_by (λ k. stays f.offset (map k)) (range_with_len f.offset (length f.bytes))
    → f.offset + n ≡ first_owned map f
unfolding first_owned
owned_is map f n e = ap (λ k. f.offset + k) e

pub count_next : (p : ℕ → Bool) (at n later : ℕ) (b : Bool) → 0 < n → p at ≡ b
    → later ≡ count_by p (range_with_len (at + 1) (n - 1)) → cond b (later + 1) later ≡ count_by p (range_with_len at n)
count_next p at zero later b h e l = absurd (omega arith)
count_next p at (suc n) later b h e l = go b e
  where
    same : later ≡ count_by p (range_with_len (at + 1) n)
    same = let m : suc n - 1 ≡ n = omega arith in l ∙ ap (λ k. count_by p (range_with_len (at + 1) k)) m

    go : (b : Bool) → p at ≡ b → cond b (later + 1) later ≡ count_by p (range_with_len at (suc n))
    go true t = let one : cond {A = ℕ} (p at) 1 0 ≡ 1 = ap (λ x. cond {A = ℕ} x 1 0) t in
        omega (arith, sum_by-cons (λ k. cond {A = ℕ} (p k) 1 0) at (range_with_len (at + 1) n), same)
    go false t = let none : cond {A = ℕ} (p at) 1 0 ≡ 0 = ap (λ x. cond {A = ℕ} x 1 0) t in
        omega (arith, sum_by-cons (λ k. cond {A = ℕ} (p k) 1 0) at (range_with_len (at + 1) n), same)

-- the offsets after the table are empty, before the overlay and after it
pub place_next : (map : Map) (f : Fragment) (k n : ℕ) → n ≤ k → fragment_end f ≤ n → map k ≡ None
    → overlay map f k ≡ None
place_next map f k n le inside e =
    sym (place_none map f k e (outside (nat_le f.offset k) (nat_lt k (fragment_end f))
    (le-ltb k (fragment_end f) (omega arith))))
  where
    outside : (a b : Bool) → b ≡ false → (a && b) ≡ false
    outside true b e = e
    outside false b e = refl
