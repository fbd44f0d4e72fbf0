-- The order in which the parts of a cut are overlaid makes no difference.
use Rattle.std.proofs.Common.{◌≡◌, ℕ, zero, suc, ◌+◌, ◌-◌, ◌*◌, ◌/◌, ◌<◌, ◌≤◌, true, false, List, [], ◌∷◌, length, refl, sym, ◌∙◌, ap, subst, ◌⊎◌, inl, inr, arith, min, Option, Some, None}
use Rattle.std.specs.Prelude.{IsSome, IfSome, slice_index, Contains, Any, All, slice_index_or}
use Rattle.std.specs.Option.{option_map}
use Rattle.std.proofs.Math.Nat.{mul-le-mul_right, div-mul-le_self, lt-div-mul-add}
use Rattle.std.proofs.lemmas.List.Elements.{All-head, All-tail}
use Rattle.std.proofs.lemmas.Option.{none-some, same_Some}
use Rattle.std.proofs.lemmas.Bool.{cases_order, cases_lt, ltb-false, le-ltb}
use Rattle.flat_model.specs.Fragments.Cuts.{Part, part, chunks, cuts}
use Rattle.flat_model.specs.Fragments.Overlay.{Held, Fragment}
use Rattle.flat_model.specs.Fragments.Whole.{IsWhole}
use Rattle.flat_model.specs.Runs.Laws.{bytes_of_part}
use Rattle.flat_wire.specs.Overlays.{IsFragmentOf, inserted, IsPartInserted, OverlayOrder}
use Rattle.flat_model.proofs.Laws.{chunks_needed, chunks_enough, grid, length-grid, get_or-grid}
use Rattle.flat_wire.proofs.Grid.{cuts_grid, index_of}
use Rattle.flat_wire.proofs.Inserting.{IsCut, IsIn, IsOf, IsMade, same_index, inserting_step}

-- the i-th part is one of the fragments
abbrev pub Index : ℕ → List Fragment → ℕ → Type 0
Index c [] i = ⊥
Index c (f ∷ fragments) i = (f.offset ≡ i * c) ⊎ Index c fragments i

same_multiple : (c i j : ℕ) → 0 < c → i * c ≡ j * c → i ≡ j
same_multiple c i j some e = go (cases_order i j)
  where
    go : (i ≡ j) ⊎ ((i < j) ⊎ (j < i)) → i ≡ j
    go (inl e) = e
    go (inr (inl l)) = let m : (i + 1) * c ≤ j * c = mul-le-mul_right {m = i + 1} {n = j} c (omega arith) in
        absurd (omega arith)
    go (inr (inr l)) = let m : (j + 1) * c ≤ i * c = mul-le-mul_right {m = j + 1} {n = i} c (omega arith) in
        absurd (omega arith)

pub inserted_made : (s : List ℕ) (c : ℕ) → 0 < c → (fragments : List Fragment) → All (λ f. (i : ℕ) × IsCut s c f i)
    fragments
    → IsMade s c (inserted fragments) (Index c fragments)
inserted_made s c some [] each = record {
  held = λ offset h e. absurd (none-some h e);
  there = λ i offset d place. absurd d;
}
inserted_made s c some (f ∷ fragments) each =
    let first : (i : ℕ) × IsCut s c f i = All-head (λ f. (i : ℕ) × IsCut s c f i) f fragments each in
    let made : IsMade s c (inserted fragments) (Index c fragments) =
    inserted_made s c some fragments (All-tail (λ f. (i : ℕ) × IsCut s c f i) f fragments each) in
    let step = inserting_step s c (inserted fragments) (Index c fragments) made f first.0 first.1 in
    record {
      held = λ offset h e. let m = step.held offset h e in (m.0, to m.0 first.0 first.1.offset m.1, m.2);
      there = λ i offset d place. step.there i offset (from i first.0 first.1.offset d) place;
    }
  where
    to : (i j : ℕ) → f.offset ≡ j * c → (i ≡ j) ⊎ Index c fragments i → (f.offset ≡ i * c) ⊎ Index c fragments i
    to i j at (inl e) = inl (at ∙ ap (λ k. k * c) (sym e))
    to i j at (inr d) = inr d

    from : (i j : ℕ) → f.offset ≡ j * c → (f.offset ≡ i * c) ⊎ Index c fragments i → (i ≡ j) ⊎ Index c fragments i
    from i j at (inl e) = inl (same_multiple c i j some (sym e ∙ at))
    from i j at (inr d) = inr d

pub any_from_index : (c i : ℕ) (fragments : List Fragment) → Index c fragments i → Any (λ f. f.offset ≡ i * c) fragments
any_from_index c i [] d = absurd d
any_from_index c i (f ∷ fragments) (inl e) = (0, f, omega arith, refl, e)
any_from_index c i (f ∷ fragments) (inr d) = let later = any_from_index c i fragments d in
    (suc later.0, later.1, omega (arith, later.2), later.3, later.4)

index_from_any : (c i : ℕ) (fragments : List Fragment) → (k : ℕ) (x : Fragment) → k < length fragments
    → slice_index_or fragments k x ≡ x → x.offset ≡ i * c → Index c fragments i
index_from_any c i [] k x l e at = absurd (omega arith)
index_from_any c i (f ∷ fragments) zero x l e at = inl (ap (λ (g : Fragment). g.offset) e ∙ at)
index_from_any c i (f ∷ fragments) (suc k) x l e at = inr (index_from_any c i fragments k x (omega arith) e at)

-- every offset of the string is in a part
index_at : (n c offset : ℕ) → 0 < c → offset < n → (i : ℕ) × (i < chunks n c) × IsIn n c i offset
index_at n c offset some h =
    let low : offset / c * c ≤ offset = div-mul-le_self offset c in
    let high : offset < offset / c * c + c = lt-div-mul-add some in
    let enough : n ≤ chunks n c * c = chunks_enough n c some in
    (offset / c, below (cases_lt (offset / c) (chunks n c)), record { low = low; high = omega arith })
  where
    below : (offset / c < chunks n c) ⊎ (chunks n c ≤ offset / c) → offset / c < chunks n c
    below (inl l) = l
    below (inr le) =
        let low : offset / c * c ≤ offset = div-mul-le_self offset c in
        let more : chunks n c * c ≤ offset / c * c = mul-le-mul_right {m = chunks n c} {n = offset / c} c le in
        let enough : n ≤ chunks n c * c = chunks_enough n c some in
        absurd (omega arith)

-- the law on a grid
module _ (s : List ℕ) (c : ℕ) (some : 0 < c) (any : 0 < length s) (fragments : List Fragment)
    (made : IsMade s c (inserted fragments) (Index c fragments)) where
  pub bytes_inserted : (i offset : ℕ) → Index c fragments i → IsIn (length s) c i offset
      → option_map (λ (h : Held). h.byte) (inserted fragments offset) ≡ Some (slice_index s offset)
  bytes_inserted i offset d place = go (inserted fragments offset) refl (made.there i offset d place)
    where
      go : (x : Option Held) → inserted fragments offset ≡ x → IsSome x
          → option_map (λ (h : Held). h.byte) x ≡ Some (slice_index s offset)
      go None e p = absurd (no p)
        where
          no : false ≡ true → ⊥
          no p = cc
      go (Some h) e p = ap Some (made.held offset h e).2.byte

  some_is : (offset : ℕ) → IsSome (inserted fragments offset)
      → (i : ℕ) × (h : Held) × (inserted fragments offset ≡ Some h) × Index c fragments i × IsOf s c offset h i
  some_is offset = go (inserted fragments offset) refl
    where
      go : (x : Option Held) → inserted fragments offset ≡ x → IsSome x
          → (i : ℕ) × (h : Held) × (inserted fragments offset ≡ Some h) × Index c fragments i × IsOf s c offset h i
      go None e p = absurd (no p)
        where
          no : false ≡ true → ⊥
          no p = cc
      go (Some h) e p = let m = made.held offset h e in (m.0, h, e, m.1, m.2)

  pub ends_at_length : (m : ℕ) → IsWhole (inserted fragments) m → m ≡ length s
  ends_at_length m whole =
      let at = some_is (m - 1) (whole.filled (m - 1) (omega (arith, whole.some))) in
      let closed : at.1.piece.more ≡ false = last_is (inserted fragments (m - 1)) at.1 at.2 whole.last in
      let past : length s ≤ (at.0 + 1) * c = ltb-false _ _ (sym at.4.more ∙ closed) in
      let end_some : IsSome (inserted fragments (length s - 1)) =
      made.there at.0 (length s - 1) at.3
      (record { low = omega (arith, at.4.inside); high = omega (arith, at.4.inside) }) in
      let under : length s - 1 < m = whole.ended (length s - 1) end_some in
      omega (arith, at.4.place.high, at.4.inside, whole.some)
    where
      last_is : (x : Option Held) (h : Held) → x ≡ Some h → IfSome x (λ held. held.piece.more ≡ false)
          → h.piece.more ≡ false
      last_is None h e p = absurd (none-some h e)
      last_is (Some g) h e p = ap (λ (y : Held). y.piece.more) (sym (same_Some g h e)) ∙ p

  pub each_inserted : IsWhole (inserted fragments) (length s) → (i : ℕ) → i < chunks (length s) c → Index c fragments i
  each_inserted whole i l =
      let inside : i * c < length s = chunks_needed (length s) c i some l in
      let at = some_is (i * c) (whole.filled (i * c) inside) in
      let here : IsIn (length s) c i (i * c) = record { low = omega arith; high = omega arith } in
      subst (λ k. Index c fragments k) (same_index (length s) c at.0 i (i * c) at.4.place here) at.3

  pub whole_from : ((i : ℕ) → i < chunks (length s) c → Index c fragments i) → IsWhole (inserted fragments) (length s)
  whole_from each = record {
    some = any;
    filled = λ offset h. let at = index_at (length s) c offset some h in made.there at.0 offset (each at.0 at.1) at.2;
    ended = λ offset p. let at = some_is offset p in omega (arith, at.4.place.high, at.4.inside);
    last = last_is (inserted fragments (length s - 1)) refl;
  }
    where
      last_is : (x : Option Held) → inserted fragments (length s - 1) ≡ x → IfSome x (λ held. held.piece.more ≡ false)
      last_is None e = tt
      last_is (Some h) e =
          let m = made.held (length s - 1) h e in
          m.2.more ∙ le-ltb _ _ (omega (arith, m.2.place.high, m.2.inside))

-- a fragment of the string is a part of its grid
pub cut_of : (s : List ℕ) (mtu c : ℕ) → 0 < c → cuts (length s) mtu ≡ grid (length s) c → (f : Fragment)
    → IsFragmentOf s mtu f → (i : ℕ) × IsCut s c f i
cut_of s mtu c some e f is =
    let at = index_of (length s) c is.part some (subst (λ (ps : List Part). Contains ps is.part) e is.is_part) in (
      at.0,
      record {
        inside = chunks_needed (length s) c at.0 some at.1;
        offset = is.offset ∙ ap (λ (p : Part). p.offset) at.2;
        bytes = is.bytes ∙ ap (bytes_of_part s) at.2;
        more = is.more ∙ ap (λ (p : Part). p.more) at.2;
      },
    )

pub overlay_order_lem : (s : List ℕ) (mtu : ℕ) (fragments : List Fragment) → 0 < length s → 28 ≤ mtu
    → All (IsFragmentOf s mtu) fragments → OverlayOrder s mtu fragments
overlay_order_lem s mtu fragments any low each =
    let g = cuts_grid (length s) mtu any low in
    let c : ℕ = g.0 in
    let made : IsMade s c (inserted fragments) (Index c fragments) =
    inserted_made s c g.1 fragments (λ k d l. cut_of s mtu c g.1 g.2 (slice_index_or fragments k d) (each k d l)) in
    record {
      bytes = λ p offset is on low high.
          let at = index_of (length s) c p g.1 (subst (λ (ps : List Part). Contains ps p) g.2 is) in
          bytes_inserted s c g.1 any fragments made at.0 offset (inserted_index c p at.0 at.2 on)
          (place_of c p at.0 offset at.2 low high);
      elsewhere = λ offset p.
          let at = some_is s c g.1 any fragments made offset p in
          let l : at.0 < chunks (length s) c = index_below c at.0 g.1 at.4.inside in (
            part (length s) c at.0,
            subst (λ (ps : List Part). Contains ps (part (length s) c at.0)) (sym g.2)
                (in_grid c at.0 l),
            any_from_index c at.0 fragments at.3,
            at.4.place.low,
            at.4.place.high,
          );
      whole = (
        λ w p is.
            let at = index_of (length s) c p g.1 (subst (λ (ps : List Part). Contains ps p) g.2 is) in
            subst (λ (q : Part). IsPartInserted fragments q) (sym at.2)
            (any_from_index c at.0 fragments (each_inserted s c g.1 any fragments made w at.0 at.1)),
        λ all. whole_from s c g.1 any fragments made (λ i l.
            let on : IsPartInserted fragments (part (length s) c i) =
            all (part (length s) c i) (subst (λ (ps : List Part). Contains ps (part (length s) c i)) (sym g.2)
            (in_grid c i l)) in
            index_from_any c i fragments on.0 on.1 on.2 on.3 on.4),
      );
      length = ends_at_length s c g.1 any fragments made;
    }
  where
    inserted_index : (c : ℕ) (p : Part) (i : ℕ) → p ≡ part (length s) c i → IsPartInserted fragments p → Index c
        fragments i
    inserted_index c p i e on = index_from_any c i fragments on.0 on.1 on.2 on.3 (on.4 ∙ ap (λ (q : Part). q.offset) e)

    place_of : (c : ℕ) (p : Part) (i offset : ℕ) → p ≡ part (length s) c i → p.offset ≤ offset
        → offset < p.offset + p.size → IsIn (length s) c i offset
    place_of c p i offset e low high =
        let at : p.offset ≡ i * c = ap (λ (q : Part). q.offset) e in
        let size : p.size ≡ min c (length s - i * c) = ap (λ (q : Part). q.size) e in
        record { low = omega arith; high = omega arith }

    in_grid : (c i : ℕ) → i < chunks (length s) c → Contains (grid (length s) c) (part (length s) c i)
    in_grid c i l = (i, omega (arith, length-grid (length s) c), get_or-grid (length s) c i (part (length s) c i) l)

    index_below : (c i : ℕ) → 0 < c → i * c < length s → i < chunks (length s) c
    index_below c i some h =
        let at = index_at (length s) c (i * c) some h in
        subst (λ k. k < chunks (length s) c)
        (same_index (length s) c at.0 i (i * c) at.2 (record { low = omega arith; high = omega arith })) at.1
