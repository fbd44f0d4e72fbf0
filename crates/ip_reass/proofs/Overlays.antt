-- The map after a fragment is inserted as BSD does it: the flat machine's overlay.
use Rattle.std.proofs.Common.{◌≡◌, ℕ, zero, suc, ◌+◌, ◌-◌, ◌<◌, ◌≤◌, min, Bool, true, false, List, [], ◌∷◌, ◌++◌, length, count_by, Option, None, Some, refl, sym, ap, ◌∙◌, inl, inr, ◌⊎◌, arith, length-drop}
use Rattle.std.specs.List.{range_with_len}
use Rattle.std.proofs.lemmas.Bool.{cases_lt, le-leb, lt-leb, lt-ltb, le-ltb, and_from, and_left, and_right, cond-true, cond-false}
use Rattle.flat_model.specs.Fragments.Overlay.{Held, Map, Fragment, stays, first_owned, is_covered, brought, cut_back, is_within, lies, overlay}
use Rattle.flat_model.specs.Fragments.Overlay as flat
use Rattle.flat_model.proofs.Laws.{count_cons}
use Rattle.ip_reass.specs.Fragments.{end_of_fragment, own, map_of, Apart}
use Rattle.ip_reass.specs.Inside.Walks.{reach, AllUpto, AllAbove, trimmed, left_from}
use Rattle.ip_reass.specs.Inside.Known.{known_here, known_below, known_past, below, within, past, known_place, none_or_some, nothing_past, nothing_upto, known_left, known_right, apart_join, apart_lower, left_after, left_whole, left_none, left_cut, end_trimmed, byte_trimmed, left_from_none, left_from_apart}

-- ---- the fragments that begin up to a, and those that begin above
-- from a up to the end of the last of them, each byte is below `low` or known from the fragments before
pub covered : (a low : ℕ) (xs : List Fragment) (k : ℕ) → Apart low xs → AllUpto a xs → a ≤ k → k < reach low xs
    → (k < low) ⊎ ((c : Held) × (map_of xs k ≡ Some c))
covered a low [] k h u l m = inl m
covered a low (p ∷ xs) k h u l m = elim (known_place p k) [
  | below b ↦ absurd (omega arith)
  | within b c ↦ inr (own p k, known_here p xs k b c)
  | past b ↦ elim (covered a (end_of_fragment p) xs k h.2 u.1 l m) [
    | inl c ↦ absurd (omega arith)
    | inr r ↦ inr (r.0, known_past p xs k b ∙ r.1)
  ]
]

-- the offset at which the piece begins
abbrev first_in : Option Held → ℕ
first_in None = 0
first_in (Some c) = c.piece.first

-- if all fragments begin at most at a, so do their pieces; and the same for those that begin above a
pub begins_upto : (a : ℕ) (xs : List Fragment) (k : ℕ) (c : Held) → AllUpto a xs → map_of xs k ≡ Some c
    → c.piece.first ≤ a
begins_upto a [] k c u e = absurd (let f : None ≡ Some c = e in cc)
begins_upto a (p ∷ xs) k c u e = elim (known_place p k) [
  | below b ↦ begins_upto a xs k c u.1 (sym (known_below p xs k b) ∙ e)
  | past b ↦ begins_upto a xs k c u.1 (sym (known_past p xs k b) ∙ e)
  | within b d ↦
      let same : Some (own p k) ≡ Some c = sym (known_here p xs k b d) ∙ e in
      let first : p.offset ≡ c.piece.first = ap first_in same in
      omega (arith, u.0)
]

pub begins_above : (a : ℕ) (ys : List Fragment) (k : ℕ) (c : Held) → AllAbove a ys → map_of ys k ≡ Some c
    → a < c.piece.first
begins_above a [] k c u e = absurd (let f : None ≡ Some c = e in cc)
begins_above a (p ∷ ys) k c u e = elim (known_place p k) [
  | below b ↦ begins_above a ys k c u.1 (sym (known_below p ys k b) ∙ e)
  | past b ↦ begins_above a ys k c u.1 (sym (known_past p ys k b) ∙ e)
  | within b d ↦
      let same : Some (own p k) ≡ Some c = sym (known_here p ys k b d) ∙ e in
      let first : p.offset ≡ c.piece.first = ap first_in same in
      omega (arith, u.0)
]

-- ---- counts over a range
count_stretch : (test : ℕ → Bool) (r a n : ℕ) → ((k : ℕ) → a ≤ k → k < a + n → k < r → test k ≡ true)
    → ((k : ℕ) → a ≤ k → k < a + n → r ≤ k → test k ≡ false)
    → count_by test (range_with_len a n) ≡ min (r - a) n
count_stretch test r a zero hit miss = omega arith
count_stretch test r a (suc n) hit miss =
    let rest =
    count_stretch test r (a + 1) n (λ k l m. hit k (omega arith) (omega arith))
    (λ k l m. miss k (omega arith) (omega arith)) in
    elim (cases_lt a r) [
      | inl l ↦ omega (
        arith,
        count_cons test a (range_with_len (a + 1) n),
        cond-true {A = ℕ} _ 1 0 (hit a (omega arith) (omega arith) l),
        rest,
      )
      | inr l ↦ omega (
        arith,
        count_cons test a (range_with_len (a + 1) n),
        cond-false {A = ℕ} _ 1 0 (miss a (omega arith) (omega arith) l),
        rest,
      )
    ]

-- ---- a byte of another fragment
pub cut_none : (f : Fragment) (c : Held) → (c.piece.first ≤ f.offset) ⊎ (flat.fragment_end f ≤ c.piece.first)
    → Some (cut_back f c) ≡ Some c
cut_none f c (inl l) = ap Some (cond-false _ _ _ (and_left _ _ (le-ltb f.offset c.piece.first l)))
cut_none f c (inr l) = ap Some (cond-false _ _ _ (and_right _ _ (le-ltb c.piece.first (flat.fragment_end f) l)))

pub cut_some : (f : Fragment) (c : Held) → f.offset < c.piece.first → c.piece.first < flat.fragment_end f
    → cut_back f c ≡ record c { piece = record (c.piece) { first = flat.fragment_end f } }
cut_some f c l m =
    cond-true _ _ _ (and_from _ _ (lt-ltb f.offset c.piece.first l) (lt-ltb c.piece.first (flat.fragment_end f) m))

-- fragments that begin after the end of the new one are unchanged
pub left_alone : (m : Map) (f : Fragment) (low : ℕ) (ps : List Fragment) (k : ℕ) → Apart low ps
    → flat.fragment_end f ≤ low → lies m f k false (map_of ps k) ≡ map_of ps k
left_alone m f low [] k a l = refl
left_alone m f low (p ∷ ps) k a l =
    let g : p.offset ≤ end_of_fragment p = omega arith in
    elim (known_place p k) [
      | below b ↦ ap (lies m f k false) (known_below p ps k b)
          ∙ (left_alone m f (end_of_fragment p) ps k a.2 (omega arith) ∙ sym (known_below p ps k b))
      | past b ↦ ap (lies m f k false) (known_past p ps k b)
          ∙ (left_alone m f (end_of_fragment p) ps k a.2 (omega arith) ∙ sym (known_past p ps k b))
      | within b c ↦ ap (lies m f k false) (known_here p ps k b c)
          ∙ (cut_none f (own p k) (inr (omega arith)) ∙ sym (known_here p ps k b c))
    ]

-- the rest of the fragments after the new one, from its end on
pub left_from_known : (m : Map) (f : Fragment) (low : ℕ) (ps : List Fragment) (k : ℕ) → Apart low ps
    → AllAbove f.offset ps → flat.fragment_end f ≤ k
    → map_of (left_from (flat.fragment_end f) ps) k ≡ lies m f k false (map_of ps k)
left_from_known m f low [] k a u l = refl
left_from_known m f low (p ∷ ps) k a u l = elim (left_after (flat.fragment_end f) p ps) [
  | left_whole h is ↦ ap (λ (qs : List Fragment). map_of qs k) is
      ∙ sym (left_alone m f (flat.fragment_end f) (p ∷ ps) k (h, a.1, a.2) (omega arith))
  | left_none h is ↦ ap (λ (qs : List Fragment). map_of qs k) is
      ∙ (left_from_known m f (end_of_fragment p) ps k a.2 u.1 l
      ∙ ap (lies m f k false) (sym (known_past p ps k (omega arith))))
  | left_cut h n is ↦
      let e = flat.fragment_end f in
      let q : Fragment = trimmed (flat.fragment_end f - p.offset) p in
      let long = end_trimmed (flat.fragment_end f - p.offset) p (omega arith) in
      ap (λ (qs : List Fragment). map_of qs k) is
      ∙ elim (cases_lt k (end_of_fragment p)) [
        | inl b ↦
            let first : p.offset + (flat.fragment_end f - p.offset) ≡ flat.fragment_end f = omega arith in
            let mine : own q k ≡ record (own p k) { piece = record ((own p k).piece) { first = flat.fragment_end f } } =
            λ i. record {
              byte = byte_trimmed (flat.fragment_end f - p.offset) p k (omega arith) i;
              piece = record { first = first i; more = p.more; weight = p.weight };
            } in
            known_here q ps k (omega arith) (omega (arith, long))
            ∙ (ap Some (mine ∙ sym (cut_some f (own p k) u.0 h))
            ∙ ap (lies m f k false) (sym (known_here p ps k (omega arith) b)))
        | inr b ↦ known_past q ps k (omega (arith, long))
            ∙ (sym (left_alone m f (end_of_fragment p) ps k a.2 (omega arith))
            ∙ ap (lies m f k false) (sym (known_past p ps k b)))
      ]
]

-- fragments in order, split at a: those that begin at most at a, and those that begin above a
pub record Around (a : ℕ) (xs ys : List Fragment) : Type 0 where
  pub before : Apart 0 xs
  pub after : Apart (reach 0 xs) ys
  pub upto : AllUpto a xs
  pub above : AllAbove a ys

module _ (f : Fragment) (xs ys : List Fragment) (w : Around f.offset xs ys) where
  stays_here : (k : ℕ) → f.offset ≤ k → k < flat.fragment_end f → k < reach 0 xs
      → stays f.offset (map_of (xs ++ ys) k) ≡ true
  stays_here k l m r = elim (covered f.offset 0 xs k w.before w.upto l r) [
    | inl z ↦ absurd (omega arith)
    | inr (c, e) ↦ ap (stays f.offset) (known_left xs ys k c e)
        ∙ le-leb c.piece.first f.offset (begins_upto f.offset xs k c w.upto e)
  ]

  goes_here : (k : ℕ) → f.offset ≤ k → k < flat.fragment_end f → reach 0 xs ≤ k
      → stays f.offset (map_of (xs ++ ys) k) ≡ false
  goes_here k l m r =
      ap (stays f.offset) (known_right xs ys k (nothing_past 0 xs k w.before r)) ∙ go (none_or_some (map_of ys k))
    where
      go : (map_of ys k ≡ None) ⊎ ((c : Held) × (map_of ys k ≡ Some c)) → stays f.offset (map_of ys k) ≡ false
      go (inl e) = ap (stays f.offset) e
      go (inr (c, e)) = ap (stays f.offset) e ∙ lt-leb c.piece.first f.offset (begins_above f.offset ys k c w.above e)

  -- **the fragment owns its bytes from the end of the fragments before it on**
  pub first_is : first_owned (map_of (xs ++ ys)) f ≡ f.offset + min (reach 0 xs - f.offset) (length f.bytes)
  unfolding first_owned
  first_is =
      ap (λ (n : ℕ). f.offset + n) (count_stretch (λ k. stays f.offset (map_of (xs ++ ys) k)) (reach 0 xs) f.offset
      (length f.bytes) (λ k l m r. stays_here k l m r) (λ k l m r. goes_here k l m r))

  pub covered_yes : length f.bytes ≤ reach 0 xs - f.offset → is_covered (map_of (xs ++ ys)) f ≡ true
  covered_yes l = le-leb (flat.fragment_end f) (first_owned (map_of (xs ++ ys)) f) (omega (arith, first_is))

  pub covered_no : reach 0 xs - f.offset < length f.bytes → is_covered (map_of (xs ++ ys)) f ≡ false
  covered_no l = lt-leb (flat.fragment_end f) (first_owned (map_of (xs ++ ys)) f) (omega (arith, first_is))

  inside : (k : ℕ) → f.offset ≤ k → k < flat.fragment_end f → is_within f k ≡ true
  inside k l m = and_from _ _ (le-leb f.offset k l) (lt-ltb k (flat.fragment_end f) m)

  outside : (k : ℕ) → (k < f.offset) ⊎ (flat.fragment_end f ≤ k) → is_within f k ≡ false
  outside k (inl l) = and_left _ _ (lt-leb f.offset k l)
  outside k (inr l) = and_right _ _ (le-ltb k (flat.fragment_end f) l)

  abbrev pub new_parts : ℕ → List Fragment
  new_parts cut = xs ++ trimmed cut f ∷ left_from (flat.fragment_end f) ys

  over : (k : ℕ) (b : Bool) (o : Option Held) → is_within f k ≡ b → map_of (xs ++ ys) k ≡ o
      → overlay (map_of (xs ++ ys)) f k ≡ lies (map_of (xs ++ ys)) f k b o
  unfolding overlay
  over k b o h e = λ i. lies (map_of (xs ++ ys)) f k (h i) (e i)

  -- a byte that is known from a fragment before is unchanged
  early_stays : (k : ℕ) (c : Held) → map_of xs k ≡ Some c → overlay (map_of (xs ++ ys)) f k ≡ Some c
  early_stays k c e = go (is_within f k) refl
    where
      first : c.piece.first ≤ f.offset
      first = begins_upto f.offset xs k c w.upto e

      go : (b : Bool) → is_within f k ≡ b → overlay (map_of (xs ++ ys)) f k ≡ Some c
      go true h =
          over k true (Some c) h (known_left xs ys k c e) ∙ cond-true _ _ _ (le-leb c.piece.first f.offset first)
      go false h = over k false (Some c) h (known_left xs ys k c e) ∙ cut_none f c (inl first)

  -- a byte of the new fragment that isn't known from those before comes from the new one
  brought_here : (k : ℕ) → f.offset ≤ k → k < flat.fragment_end f → map_of xs k ≡ None
      → overlay (map_of (xs ++ ys)) f k ≡ Some (brought (map_of (xs ++ ys)) f k)
  brought_here k l m e = go (map_of ys k) refl
    where
      go : (o : Option Held) → map_of ys k ≡ o
          → overlay (map_of (xs ++ ys)) f k ≡ Some (brought (map_of (xs ++ ys)) f k)
      go None h = over k true None (inside k l m) (known_right xs ys k e ∙ h)
      go (Some c) h =
          over k true (Some c) (inside k l m) (known_right xs ys k e ∙ h)
          ∙ cond-false _ _ _ (lt-leb c.piece.first f.offset (begins_above f.offset ys k c w.above h))

  -- **the fragments before, the rest of the new one, and the rest of the fragments after it make up the overlay**
  pub inserted_at : (cut k : ℕ) → cut ≡ reach 0 xs - f.offset → cut < length f.bytes
      → map_of (new_parts cut) k ≡ overlay (map_of (xs ++ ys)) f k
  inserted_at cut k is_cut some = elim (none_or_some (map_of xs k)) [
    | inr (c, e) ↦ known_left xs (trimmed cut f ∷ left_from (flat.fragment_end f) ys) k c e ∙ sym (early_stays k c e)
    | inl e ↦ known_right xs (trimmed cut f ∷ left_from (flat.fragment_end f) ys) k e ∙ rest k e
  ]
    where
      q : Fragment
      q = trimmed cut f

      uncovered : (k : ℕ) → map_of xs k ≡ None → f.offset ≤ k → reach 0 xs ≤ k
      uncovered k e l = elim (cases_lt k (reach 0 xs)) [
        | inr m ↦ m
        | inl m ↦ elim (covered f.offset 0 xs k w.before w.upto l m)
            [ inl z ↦ absurd (omega arith) | inr r ↦ absurd (let g : Some r.0 ≡ None = sym r.1 ∙ e in cc) ]
      ]

      rest : (k : ℕ) → map_of xs k ≡ None
          → map_of (trimmed cut f ∷ left_from (flat.fragment_end f) ys) k ≡ overlay (map_of (xs ++ ys)) f k
      rest k e = elim (known_place f k) [
        | below b ↦
            known_below (trimmed cut f) (left_from (flat.fragment_end f) ys) k (omega arith)
            ∙ (left_from_none (reach 0 xs) (flat.fragment_end f) ys k w.after (omega arith)
            ∙ sym (over k false None (outside k (inl b))
            (known_right xs ys k e ∙ nothing_upto f.offset ys k w.above (omega arith))))
        | past b ↦
            known_past (trimmed cut f) (left_from (flat.fragment_end f) ys) k
            (omega (arith, end_trimmed cut f (omega arith)))
            ∙ (left_from_known (map_of (xs ++ ys)) f (reach 0 xs) ys k w.after w.above b
            ∙ sym (over k false (map_of ys k) (outside k (inr b)) (known_right xs ys k e)))
        | within b d ↦
            let clear : reach 0 xs ≤ k = uncovered k e b in
            let first : f.offset + cut ≡ first_owned (map_of (xs ++ ys)) f = omega (arith, first_is) in
            let mine : own (trimmed cut f) k ≡ brought (map_of (xs ++ ys)) f k =
            λ i. record {
              byte = byte_trimmed cut f k (omega arith) i;
              piece = record { first = first i; more = f.more; weight = f.weight };
            } in
            known_here (trimmed cut f) (left_from (flat.fragment_end f) ys) k (omega arith)
            (omega (arith, end_trimmed cut f (omega arith)))
            ∙ (ap Some mine ∙ sym (brought_here k b d e))
      ]

  pub inserted_is : (cut : ℕ) → cut ≡ reach 0 xs - f.offset → cut < length f.bytes
      → map_of (new_parts cut) ≡ overlay (map_of (xs ++ ys)) f
  inserted_is cut is_cut some = λ i k. inserted_at cut k is_cut some i

  pub inserted_apart : (cut : ℕ) → cut ≡ reach 0 xs - f.offset → cut < length f.bytes → Apart 0 (new_parts cut)
  inserted_apart cut is_cut some =
      apart_join 0 xs (trimmed cut f ∷ left_from (flat.fragment_end f) ys) w.before (
        omega arith,
        omega (arith, length-drop cut f.bytes),
        apart_lower (flat.fragment_end f) (end_of_fragment (trimmed cut f)) (left_from (flat.fragment_end f) ys)
            (omega (arith, end_trimmed cut f (omega arith)))
            (left_from_apart (reach 0 xs) (flat.fragment_end f) ys w.after),
      )
