-- Parts of one datagram, overlaid on each other.
use Rattle.std.proofs.Common.{◌≡◌, ℕ, zero, suc, ◌+◌, ◌-◌, ◌*◌, ◌<◌, ◌≤◌, Bool, true, false, List, length, drop, refl, sym, ◌∙◌, ap, subst, ◌⊎◌, inl, inr, arith, min, Option, Some, None, cond}
use Rattle.std.specs.Prelude.{nat_le, nat_lt, IsSome, count_by, slice_index, ◌&&◌}
use Rattle.std.specs.List.{range_with_len}
use Rattle.std.proofs.Math.Nat.{mul-le-mul_right}
use Rattle.std.proofs.lemmas.List.{get_or-take, get_or-drop, length-drop, length-take-le}
use Rattle.std.proofs.lemmas.List.Sums.{sum_by-cons}
use Rattle.std.proofs.lemmas.Option.{none-some, same_Some}
use Rattle.std.proofs.lemmas.Bool.{cases_lt, cases_order, leb-true, ltb-true, le-leb, le-ltb, cond-true, cond-false, and_parts, and_left, and_right}
use Rattle.flat_model.specs.Fragments.Cuts.{part}
use Rattle.flat_model.specs.Fragments.Overlay.{Held, Map, Fragment, fragment_end, stays, first_owned, brought, cut_back, is_within, lies, overlay}
use Rattle.flat_model.specs.Runs.Laws.{bytes_of_part}
use Rattle.flat_wire.proofs.Maps.{overlay_keeps, overlay_brings}

-- the end of the i-th part of n bytes
abbrev pub end_of : ℕ → ℕ → ℕ → ℕ
end_of n c i = i * c + min c (n - i * c)

-- the offset is in the i-th part
pub record IsIn (n c i offset : ℕ) : Type 0 where
  pub low : i * c ≤ offset
  pub high : offset < end_of n c i

-- a part of the string s in chunks of c, as a fragment
pub record IsCut (s : List ℕ) (c : ℕ) (f : Fragment) (i : ℕ) : Type 0 where
  pub inside : i * c < length s
  pub offset : f.offset ≡ i * c
  pub bytes : f.bytes ≡ bytes_of_part s (part (length s) c i)
  pub more : f.more ≡ nat_lt ((i + 1) * c) (length s)

-- chunks don't overlap
pub same_index : (n c i j offset : ℕ) → IsIn n c i offset → IsIn n c j offset → i ≡ j
same_index n c i j offset a b = go (cases_order i j)
  where
    go : (i ≡ j) ⊎ ((i < j) ⊎ (j < i)) → i ≡ j
    go (inl e) = e
    go (inr (inl l)) = let m : (i + 1) * c ≤ j * c = mul-le-mul_right {m = i + 1} {n = j} c (omega arith) in
        absurd (omega (arith, a.high, b.low))
    go (inr (inr l)) = let m : (j + 1) * c ≤ i * c = mul-le-mul_right {m = j + 1} {n = i} c (omega arith) in
        absurd (omega (arith, a.low, b.high))

-- the byte and the piece at an offset of the i-th part
pub record IsOf (s : List ℕ) (c offset : ℕ) (held : Held) (i : ℕ) : Type 0 where
  pub inside : i * c < length s
  pub place : IsIn (length s) c i offset
  pub byte : held.byte ≡ slice_index s offset
  pub first : held.piece.first ≡ i * c
  pub more : held.piece.more ≡ nat_lt ((i + 1) * c) (length s)

-- a map made of parts: those with an index in D, each whole
pub record IsMade (s : List ℕ) (c : ℕ) (bytes : Map) (D : ℕ → Type 0) : Type 0 where
  pub held : (offset : ℕ) (h : Held) → bytes offset ≡ Some h → (i : ℕ) × D i × IsOf s c offset h i
  pub there : (i offset : ℕ) → D i → IsIn (length s) c i offset → IsSome (bytes offset)

pub fragment_end_is : (s : List ℕ) (c : ℕ) (f : Fragment) (i : ℕ) → IsCut s c f i
    → fragment_end f ≡ end_of (length s) c i
fragment_end_is s c f i cut =
    let len : length f.bytes ≡ min c (length s - i * c) =
    ap length cut.bytes ∙ length-take-le (min c (length s - i * c)) (drop (i * c) s)
    (omega (arith, length-drop (i * c) s)) in
    omega (arith, cut.offset)

within_is : (s : List ℕ) (c : ℕ) (f : Fragment) (i offset : ℕ) → IsCut s c f i → is_within f offset ≡ true
    → IsIn (length s) c i offset
within_is s c f i offset cut e =
    let parts : (nat_le f.offset offset ≡ true) × (nat_lt offset (fragment_end f) ≡ true) = and_parts _ _ e in
    let low : f.offset ≤ offset = leb-true _ _ parts.0 in
    let high : offset < fragment_end f = ltb-true _ _ parts.1 in
    record { low = omega (arith, cut.offset); high = omega (arith, fragment_end_is s c f i cut) }

-- the byte that the fragment brings
pub brought_byte : (s : List ℕ) (c : ℕ) (f : Fragment) (i offset : ℕ) → IsCut s c f i → IsIn (length s) c i offset
    → slice_index f.bytes (offset - f.offset) ≡ slice_index s offset
brought_byte s c f i offset cut place =
    let back : i * c + (offset - f.offset) ≡ offset = omega (arith, cut.offset, place.low) in
    ap (λ bytes. slice_index bytes (offset - f.offset)) cut.bytes
    ∙ get_or-take (min c (length s - i * c)) (drop (i * c) s) (offset - f.offset) 0
    (omega (arith, place.high, place.low, cut.offset))
    ∙ get_or-drop (i * c) s (offset - f.offset) 0
    ∙ ap (slice_index s) back

-- if no offset passes, the count is 0
count_none : (p : ℕ → Bool) (a k : ℕ) → ((offset : ℕ) → a ≤ offset → offset < a + k → p offset ≡ false)
    → count_by p (range_with_len a k) ≡ 0
count_none p a zero none = refl
count_none p a (suc k) none =
    sum_by-cons (λ x. cond (p x) 1 0) a (range_with_len (a + 1) k)
    ∙ ap (λ b. cond b 1 0 + count_by p (range_with_len (a + 1) k)) (none a (omega arith) (omega arith))
    ∙ (let later : count_by p (range_with_len (a + 1) k)
    ≡ 0 = count_none p (a + 1) k (λ offset low high. none offset (omega arith) (omega arith)) in omega arith)

module _ (s : List ℕ) (c : ℕ) (bytes : Map) (D : ℕ → Type 0) (made : IsMade s c bytes D) (f : Fragment) (j : ℕ)
    (cut : IsCut s c f j) where
  -- if the map is empty at one offset of a part, the fragment owns the whole part
  pub first_is : (offset : ℕ) → IsIn (length s) c j offset → bytes offset ≡ None → first_owned bytes f ≡ j * c
  unfolding first_owned
  first_is offset place none =
      let empty : (o : ℕ) → f.offset ≤ o → o < f.offset + length f.bytes → stays f.offset (bytes o) ≡ false =
      λ o low high. go o (record { low = omega (arith, cut.offset); high = omega (arith, fragment_end_is s c f j cut) })
      (bytes o) refl in
      let e : count_by (λ o. stays f.offset (bytes o)) (range_with_len f.offset (length f.bytes)) ≡ 0 =
      count_none _ f.offset (length f.bytes) empty in
      omega (arith, cut.offset)
    where
      go : (o : ℕ) → IsIn (length s) c j o → (old : Option Held) → bytes o ≡ old → stays f.offset old ≡ false
      go o here None e = refl
      go o here (Some h) e =
          let m = made.held o h e in
          let same : m.0 ≡ j = same_index (length s) c m.0 j o m.2.place here in
          let d : D j = subst D same m.1 in
          absurd (both_ways_some (bytes offset) none (made.there j offset d place))
        where
          both_ways_some : (x : Option Held) → x ≡ None → IsSome x → ⊥
          both_ways_some None e p = cc
          both_ways_some (Some y) e p = cc

  -- the indices in the map after the overlay
  abbrev pub More : ℕ → Type 0
  More i = (i ≡ j) ⊎ D i

  on_more : (offset i : ℕ) (h : Held) → D i → IsOf s c offset h i → (k : ℕ) × More k × IsOf s c offset h k
  on_more offset i h d m = (i, inr d, m)

  step_held : (offset : ℕ) (h : Held) (w : Bool) (old : Option Held) → is_within f offset ≡ w → bytes offset ≡ old
      → lies bytes f offset w old ≡ Some h → (i : ℕ) × More i × IsOf s c offset h i
  step_held offset h true None ew eo e =
      let place : IsIn (length s) c j offset = within_is s c f j offset cut ew in
      let same : brought bytes f offset ≡ h = same_Some _ _ e in (
        j,
        inl refl,
        record {
          inside = cut.inside;
          place = place;
          byte = ap (λ (x : Held). x.byte) (sym same) ∙ brought_byte s c f j offset cut place;
          first = ap (λ (x : Held). x.piece.first) (sym same) ∙ first_is offset place eo;
          more = ap (λ (x : Held). x.piece.more) (sym same) ∙ cut.more;
        },
      )
  step_held offset h true (Some g) ew eo e =
      let place : IsIn (length s) c j offset = within_is s c f j offset cut ew in
      let m = made.held offset g eo in
      let same : m.0 ≡ j = same_index (length s) c m.0 j offset m.2.place place in
      let at : m.0 * c ≡ j * c = ap (λ i. i * c) same in
      let kept : nat_le g.piece.first f.offset ≡ true = le-leb _ _ (omega (arith, m.2.first, cut.offset)) in
      let is : g ≡ h =
      same_Some g h (sym (cond-true (nat_le g.piece.first f.offset) (Some g) (Some (brought bytes f offset)) kept)
      ∙ e) in
      subst (λ (x : Held). (i : ℕ) × More i × IsOf s c offset x i) is (on_more offset m.0 g m.1 m.2)
  step_held offset h false None ew eo e = absurd (none-some h e)
  step_held offset h false (Some g) ew eo e =
      let m = made.held offset g eo in
      let is : cut_back f g ≡ h = same_Some _ _ e in
      let same : cut_back f g ≡ g =
      cond-false (nat_lt f.offset g.piece.first && nat_lt g.piece.first (fragment_end f)) _ g
      (apart m.0 m.2 (cases_lt f.offset g.piece.first)) in
      subst (λ (x : Held). (i : ℕ) × More i × IsOf s c offset x i) (sym same ∙ is) (on_more offset m.0 g m.1 m.2)
    where
      apart : (i : ℕ) → IsOf s c offset g i → (f.offset < g.piece.first) ⊎ (g.piece.first ≤ f.offset)
          → (nat_lt f.offset g.piece.first && nat_lt g.piece.first (fragment_end f)) ≡ false
      apart i m (inr le) = and_left _ _ (le-ltb f.offset g.piece.first le)
      apart i m (inl lt) = and_right _ _ (le-ltb g.piece.first (fragment_end f) (go (cases_order i j)))
        where
          go : (i ≡ j) ⊎ ((i < j) ⊎ (j < i)) → fragment_end f ≤ g.piece.first
          go (inl e) = let at : i * c ≡ j * c = ap (λ k. k * c) e in absurd (omega (arith, m.first, cut.offset))
          go (inr (inl l)) = let le : i * c ≤ j * c = mul-le-mul_right {m = i} {n = j} c (omega arith) in
              absurd (omega (arith, m.first, cut.offset))
          go (inr (inr l)) = let le : (j + 1) * c ≤ i * c = mul-le-mul_right {m = j + 1} {n = i} c (omega arith) in
              omega (arith, m.first, fragment_end_is s c f j cut)

  step_there : (i offset : ℕ) → More i → IsIn (length s) c i offset → IsSome (overlay bytes f offset)
  step_there i offset (inr d) place = overlay_keeps bytes f offset (made.there i offset d place)
  step_there i offset (inl e) place =
      let here : IsIn (length s) c j offset = subst (λ k. IsIn (length s) c k offset) e place in
      overlay_brings bytes f offset (omega (arith, cut.offset, here.low))
      (omega (arith, fragment_end_is s c f j cut, here.high))

  pub inserting_step : IsMade s c (overlay bytes f) More
  unfolding overlay
  inserting_step = record {
    held = λ offset h e. step_held offset h (is_within f offset) (bytes offset) refl refl e;
    there = step_there;
  }
