-- A fragment overlaid on the bytes of an unfinished datagram leaves pieces without gaps, and adds at most its own
-- weight.
use Rattle.std.proofs.Common.{◌≡◌, ℕ, zero, suc, ◌+◌, ◌-◌, ◌<◌, ◌≤◌, Bool, true, false, List, length, refl, sym, ◌∙◌, ap, subst, arith, Option, Some, None, cond, ◌⊎◌, inl, inr}
use Rattle.std.specs.Prelude.{◌==◌, ◌&&◌, nat_lt, nat_le, count_by, filter_map}
use Rattle.std.specs.List.{AllByRecursion as Each, range_with_len, cons_option}
use Rattle.std.proofs.lemmas.Bool.{eqb-true, eqb-false, ltb-true, leb-true, lt-ltb, le-leb, lt-leb, and_parts, and_from, cases_lt}
use Rattle.std.proofs.lemmas.Option.{none-some, same_Some}
use Rattle.flat_model.specs.Amounts.Weight.{Weight, Covers, all_of}
use Rattle.flat_model.specs.Fragments.Overlay.{Held, Piece, Map, Fragment, empty, fragment_end, stays, first_owned, brought, cut_back, is_within, lies, overlay}
use Rattle.flat_model.specs.Fragments.Whole.{piece_at, pieces_below, weight_of_pieces}
use Rattle.flat_model.specs.Runs.Consistent.{Carries, IsConsistentAt, IsMap}
use Rattle.flat_model.specs.declared.config.Config.{Config}
use Rattle.flat_model.proofs.Lists.Each.{each-append}
use Rattle.flat_model.proofs.Lists.Totals.{total, total_le, total_add, total_spike, total_spike_most, spike, spike_here, count_cons}

-- a weight that covers n bytes covers fewer
pub covers_less : (w : Weight) (m n : ℕ) → m ≤ n → Covers w n → Covers w m
covers_less w m n le c = record { some = c.some; references = c.references; room = omega (arith, c.room) }

pub carries_less : (c : Config) (w : Weight) (m n : ℕ) → m ≤ n → Carries c w n → Carries c w m
carries_less c w m n le h = record { covers = covers_less w m n le h.covers; exist = h.exist }

-- ---- the pieces of a map, counted at the offsets at which they begin

pub starts : ℕ → Option Held → ℕ
starts offset None = 0
starts offset (Some held) = cond (held.piece.first == offset) held.piece.weight.mbufs 0

none_starts : (offset : ℕ) → starts offset None ≡ 0
unfolding starts
none_starts offset = refl

module _ (bytes : Map) where
  mbufs_from : (at n : ℕ) → (all_of (λ (p : Piece). p.weight)
      (filter_map (λ offset. piece_at offset (bytes offset)) (range_with_len at n))).mbufs ≡ total (λ offset. starts
      offset (bytes offset)) at n
  unfolding total starts
  mbufs_from at zero = refl
  mbufs_from at (suc n) = go (bytes at) rest (mbufs_from (at + 1) n)
    where
      rest : List Piece
      rest = filter_map (λ offset. piece_at offset (bytes offset)) (range_with_len (at + 1) n)

      one : (held : Held) (b : Bool) (xs : List Piece) (t : ℕ) → (all_of (λ (p : Piece). p.weight) xs).mbufs ≡ t
          → (all_of (λ (p : Piece). p.weight) (cons_option (cond b (Some held.piece) None) xs)).mbufs
          ≡ cond b held.piece.weight.mbufs 0 + t
      one held true xs t e = ap (λ k. held.piece.weight.mbufs + k) e
      one held false xs t e = omega (arith, e)

      go : (x : Option Held) (xs : List Piece) {t : ℕ} → (all_of (λ (p : Piece). p.weight) xs).mbufs ≡ t
          → (all_of (λ (p : Piece). p.weight) (cons_option (piece_at at x) xs)).mbufs ≡ starts at x + t
      go None xs e = omega (arith, e)
      go (Some held) xs {t = t} e = one held (held.piece.first == at) xs t e

  bag_from : (P : ℕ → Type 0) → ((offset : ℕ) (held : Held) → bytes offset ≡ Some held → Each P held.piece.weight.bag)
      → (at n : ℕ) → Each P (all_of (λ (p : Piece). p.weight)
      (filter_map (λ offset. piece_at offset (bytes offset)) (range_with_len at n))).bag
  bag_from P all at zero = tt
  bag_from P all at (suc n) = go (bytes at) refl _ (bag_from P all (at + 1) n)
    where
      one : (held : Held) → Each P held.piece.weight.bag → (b : Bool) (xs : List Piece)
          → Each P (all_of (λ (p : Piece). p.weight) xs).bag
          → Each P (all_of (λ (p : Piece). p.weight) (cons_option (cond b (Some held.piece) None) xs)).bag
      one held is true xs rest = each-append P held.piece.weight.bag (all_of (λ (p : Piece). p.weight) xs).bag is rest
      one held is false xs rest = rest

      go : (x : Option Held) → bytes at ≡ x → (xs : List Piece) → Each P (all_of (λ (p : Piece). p.weight) xs).bag
          → Each P (all_of (λ (p : Piece). p.weight) (cons_option (piece_at at x) xs)).bag
      go None e xs rest = rest
      go (Some held) e xs rest = one held (all at held e) (held.piece.first == at) xs rest

  pieces_mbufs_below : (most : ℕ)
      → (all_of (λ (p : Piece). p.weight) (pieces_below most bytes)).mbufs
      ≡ total (λ offset. starts offset (bytes offset)) 0 most
  unfolding pieces_below
  pieces_mbufs_below most = mbufs_from 0 most

  pieces_bag_below : (P : ℕ → Type 0)
      → ((offset : ℕ) (held : Held) → bytes offset ≡ Some held → Each P held.piece.weight.bag) → (most : ℕ)
      → Each P (all_of (λ (p : Piece). p.weight) (pieces_below most bytes)).bag
  unfolding pieces_below
  pieces_bag_below P all most = bag_from P all 0 most

  pub pieces_mbufs : (weight_of_pieces bytes).mbufs ≡ total (λ offset. starts offset (bytes offset)) 0 65515
  pieces_mbufs = pieces_mbufs_below 65515

  pub pieces_bag : (P : ℕ → Type 0)
      → ((offset : ℕ) (held : Held) → bytes offset ≡ Some held → Each P held.piece.weight.bag)
      → Each P (weight_of_pieces bytes).bag
  pieces_bag P all = pieces_bag_below P all 65515

zeros : (at n : ℕ) → total (λ offset. starts offset None) at n ≡ 0
unfolding total starts
zeros at zero = refl
zeros at (suc n) = let rest = zeros (at + 1) n in omega arith

pub pieces_none : (weight_of_pieces empty).mbufs ≡ 0
pieces_none = pieces_mbufs empty ∙ zeros 0 65515

-- ---- the count of a test that passes up to an offset, and fails from there on

none_pass : (p : ℕ → Bool) (at n : ℕ) → ((k : ℕ) → at ≤ k → k < at + n → p k ≡ false)
    → count_by p (range_with_len at n) ≡ 0
none_pass p at zero h = refl
none_pass p at (suc n) h =
    let later : count_by p (range_with_len (at + 1) n) ≡ 0 =
    none_pass p (at + 1) n (λ k low high. h k (omega arith) (omega arith)) in
    let here : cond {A = ℕ} (p at) 1 0 ≡ 0 = ap (λ b. cond {A = ℕ} b 1 0) (h at (omega arith) (omega arith)) in
    omega (arith, count_cons p at (range_with_len (at + 1) n))

-- Only the offsets below at + count pass.
record Splits (p : ℕ → Bool) (at count k : ℕ) : Type 0 where
  passes : p k ≡ true → k < at + count
  fails : p k ≡ false → at + count ≤ k

no : {A : Type 0} → false ≡ true → A
no e = absurd (never e)
  where
    never : false ≡ true → ⊥
    never e = cc

splits : (p : ℕ → Bool) (at n : ℕ) → ((j k : ℕ) → at ≤ j → j ≤ k → k < at + n → p k ≡ true → p j ≡ true)
    → (k : ℕ) → at ≤ k → k < at + n → Splits p at (count_by p (range_with_len at n)) k
splits p at zero closed k low high = absurd (omega arith)
splits p at (suc n) closed k low high =
    go (splits p (at + 1) n (λ j i l m h. closed j i (omega arith) m (omega arith))) (p at) refl
    (count_cons p at (range_with_len (at + 1) n)) (cases_lt at k)
  where
    later : ℕ
    later = count_by p (range_with_len (at + 1) n)

    go : ((k : ℕ) → at + 1 ≤ k → k < at + 1 + n → Splits p (at + 1) (count_by p (range_with_len (at + 1) n)) k)
        → (b : Bool) → p at ≡ b
        → count_by p (range_with_len at (suc n)) ≡ cond {A = ℕ} b 1 0 + count_by p (range_with_len (at + 1) n)
        → (at < k) ⊎ (k ≤ at)
        → Splits p at (count_by p (range_with_len at (suc n))) k
    go rest true e c (inl h) = let r = rest k (omega arith) (omega arith) in
        record { passes = λ t. let x = r.passes t in omega arith; fails = λ t. let x = r.fails t in omega arith }
    go rest true e c (inr h) =
        let same : k ≡ at = omega arith in
        record { passes = λ t. omega arith; fails = λ t. no (sym t ∙ ap p same ∙ e) }
    go rest false e c h =
        let none : count_by p (range_with_len (at + 1) n) ≡ 0 =
        none_pass p (at + 1) n (λ j l m. all_fail j (omega arith) (omega arith)) in
        record { passes = λ t. no (sym (all_fail k (omega arith) (omega arith)) ∙ t); fails = λ t. omega arith }
      where
        all_fail : (j : ℕ) → at ≤ j → j < at + suc n → p j ≡ false
        all_fail j l m = split (p j) refl
          where
            split : (b : Bool) → p j ≡ b → p j ≡ false
            split false t = t
            split true t = no (sym e ∙ closed at j (omega arith) l m t)

-- ---- the fragment overlaid on the map

module _ (c : Config) (bytes : Map) (f : Fragment) (is_map : IsMap c bytes)
    (carries : Carries c f.weight (length f.bytes)) (inside : fragment_end f ≤ 65515) where
  within_is : (offset : ℕ) → is_within f offset ≡ true → (f.offset ≤ offset) × (offset < fragment_end f)
  within_is offset e = let parts = and_parts (nat_le f.offset offset) (nat_lt offset (fragment_end f)) e in
      (leb-true _ _ parts.0, ltb-true _ _ parts.1)

  is_inside : (offset : ℕ) → f.offset ≤ offset → offset < fragment_end f → is_within f offset ≡ true
  is_inside offset low high = and_from _ _ (le-leb f.offset offset low) (lt-ltb offset (fragment_end f) high)

  stays_is : (offset : ℕ) (b : Bool) → stays f.offset (bytes offset) ≡ true
      → (held : Held) × (bytes offset ≡ Some held) × (held.piece.first ≤ f.offset)
  stays_is offset b e = go (bytes offset) refl e
    where
      go : (x : Option Held) → bytes offset ≡ x → stays f.offset x ≡ true
          → (held : Held) × (bytes offset ≡ Some held) × (held.piece.first ≤ f.offset)
      go None at e = no e
      go (Some held) at e = (held, at, leb-true held.piece.first f.offset e)

  is_staying : (offset : ℕ) (held : Held) → bytes offset ≡ Some held → held.piece.first ≤ f.offset
      → stays f.offset (bytes offset) ≡ true
  is_staying offset held at le = ap (stays f.offset) at ∙ le-leb held.piece.first f.offset le

  front_stays : (j k : ℕ) → f.offset ≤ j → j ≤ k → k < f.offset + length f.bytes → stays f.offset (bytes k) ≡ true
      → stays f.offset (bytes j) ≡ true
  front_stays j k low le high e =
      let s = stays_is k true e in
      let at = (is_map k s.0 s.1).filled j (omega (arith, s.2)) le in
      is_staying j at.0 at.1 (let same : at.0.piece.first ≡ s.0.piece.first = ap (λ (p : Piece). p.first) at.2 in
      omega (arith, s.2))

  -- an offset that keeps its old byte is below those that the fragment owns
  owned_from : (offset : ℕ) → f.offset ≤ offset → offset < fragment_end f
      → (stays f.offset (bytes offset) ≡ true → offset < first_owned bytes f)
      × (stays f.offset (bytes offset) ≡ false → first_owned bytes f ≤ offset)
  unfolding first_owned
  owned_from offset low high =
      let s = splits (λ k. stays f.offset (bytes k)) f.offset (length f.bytes) front_stays offset low high in
      (s.passes, s.fails)

  owned_low : f.offset ≤ first_owned bytes f
  unfolding first_owned
  owned_low = omega arith

  -- the byte at an offset afterwards: an old one in the fragment's range, one of the fragment's, or one outside the
  -- range
  record Stayed (offset : ℕ) (h : Held) : Type 0 where
    low : f.offset ≤ offset
    high : offset < fragment_end f
    was : bytes offset ≡ Some h
    early : h.piece.first ≤ f.offset

  record Brought (offset : ℕ) (h : Held) : Type 0 where
    low : f.offset ≤ offset
    high : offset < fragment_end f
    new : stays f.offset (bytes offset) ≡ false
    is : h ≡ brought bytes f offset

  record Kept (offset : ℕ) (h : Held) : Type 0 where
    old : Held
    was : bytes offset ≡ Some old
    outside : is_within f offset ≡ false
    is : h ≡ cut_back f old

  outcome : (offset : ℕ) (h : Held) → overlay bytes f offset ≡ Some h
      → Stayed offset h ⊎ (Brought offset h ⊎ Kept offset h)
  unfolding overlay
  outcome offset h e = go (is_within f offset) (bytes offset) refl refl e
    where
      go : (w : Bool) (x : Option Held) → is_within f offset ≡ w → bytes offset ≡ x → lies bytes f offset w x ≡ Some h
          → Stayed offset h ⊎ (Brought offset h ⊎ Kept offset h)
      go true None w at e = let in_it = within_is offset w in
          inr (inl (record { low = in_it.0; high = in_it.1; new = ap (stays f.offset) at; is = sym (same_Some _ _ e) }))
      go true (Some g) w at e = split (nat_le g.piece.first f.offset) refl e
        where
          split : (b : Bool) → nat_le g.piece.first f.offset ≡ b
              → cond b (Some g) (Some (brought bytes f offset)) ≡ Some h
              → Stayed offset h ⊎ (Brought offset h ⊎ Kept offset h)
          split true t e =
              let in_it = within_is offset w in
              let same : g ≡ h = same_Some _ _ e in
              inl (record {
                low = in_it.0;
                high = in_it.1;
                was = at ∙ e;
                early = subst (λ (k : Held). k.piece.first ≤ f.offset) same (leb-true _ _ t);
              })
          split false t e = let in_it = within_is offset w in
              inr (inl (record {
                low = in_it.0;
                high = in_it.1;
                new = ap (stays f.offset) at ∙ t;
                is = sym (same_Some _ _ e);
              }))
      go false None w at e = absurd (none-some h e)
      go false (Some g) w at e = inr (inr (record { old = g; was = at; outside = w; is = sym (same_Some _ _ e) }))

  at_stayed : (offset : ℕ) (h : Held) → f.offset ≤ offset → offset < fragment_end f → bytes offset ≡ Some h
      → h.piece.first ≤ f.offset → overlay bytes f offset ≡ Some h
  unfolding overlay
  at_stayed offset h low high at early =
      rw (is_inside offset low high)
      (rw at (ap (λ b. cond b (Some h) (Some (brought bytes f offset))) (le-leb h.piece.first f.offset early)))

  at_brought : (offset : ℕ) → f.offset ≤ offset → offset < fragment_end f → stays f.offset (bytes offset) ≡ false
      → overlay bytes f offset ≡ Some (brought bytes f offset)
  unfolding overlay
  at_brought offset low high new = rw (is_inside offset low high) (go (bytes offset) new)
    where
      go : (x : Option Held) → stays f.offset x ≡ false → lies bytes f offset true x ≡ Some (brought bytes f offset)
      go None e = refl
      go (Some g) e = ap (λ b. cond b (Some g) (Some (brought bytes f offset))) e

  at_kept : (offset : ℕ) (h : Held) → is_within f offset ≡ false → bytes offset ≡ Some h
      → overlay bytes f offset ≡ Some (cut_back f h)
  unfolding overlay
  at_kept offset h out at = rw out (rw at refl)

  -- a piece that begins in the fragment, after its first byte
  record Straddles (h : Held) : Type 0 where
    low : f.offset < h.piece.first
    high : h.piece.first < fragment_end f

  abbrev Cut : Held → Type 0
  Cut h =
      (Straddles h × (cut_back f h ≡ record h { piece = record (h.piece) { first = fragment_end f } }))
      ⊎ ((Straddles h → ⊥) × (cut_back f h ≡ h))

  cut : (h : Held) → (Straddles h × (cut_back f h ≡ record h { piece = record (h.piece) { first = fragment_end f } }))
      ⊎ ((Straddles h → ⊥) × (cut_back f h ≡ h))
  cut h = go (nat_lt f.offset h.piece.first && nat_lt h.piece.first (fragment_end f)) refl
    where
      go : (b : Bool) → (nat_lt f.offset h.piece.first && nat_lt h.piece.first (fragment_end f)) ≡ b
          → (Straddles h × (cut_back f h ≡ record h { piece = record (h.piece) { first = fragment_end f } }))
          ⊎ ((Straddles h → ⊥) × (cut_back f h ≡ h))
      go true e =
          let parts = and_parts _ _ e in
          inl (
            record { low = ltb-true _ _ parts.0; high = ltb-true _ _ parts.1 },
            ap (λ b. cond b (record h { piece = record (h.piece) { first = fragment_end f } }) h) e,
          )
      go false e =
          inr (
            λ s. no (sym e ∙ and_from _ _ (lt-ltb _ _ s.low) (lt-ltb _ _ s.high)),
            ap (λ b. cond b (record h { piece = record (h.piece) { first = fragment_end f } }) h) e,
          )

  not_within : (offset : ℕ) → is_within f offset ≡ false → (offset < f.offset) ⊎ (fragment_end f ≤ offset)
  not_within offset e = go (cases_lt offset f.offset) (cases_lt offset (fragment_end f))
    where
      go : (offset < f.offset) ⊎ (f.offset ≤ offset) → (offset < fragment_end f) ⊎ (fragment_end f ≤ offset)
          → (offset < f.offset) ⊎ (fragment_end f ≤ offset)
      go (inl h) k = inl h
      go (inr h) (inr k) = inr k
      go (inr h) (inl k) = no (sym e ∙ is_inside offset h k)

  outside_is : (offset : ℕ) → (offset < f.offset) ⊎ (fragment_end f ≤ offset) → is_within f offset ≡ false
  outside_is offset h = go (is_within f offset) refl h
    where
      go : (b : Bool) → is_within f offset ≡ b → (offset < f.offset) ⊎ (fragment_end f ≤ offset)
          → is_within f offset ≡ false
      go false e h = e
      go true e (inl h) = let w = within_is offset e in absurd (omega (arith, w.0))
      go true e (inr h) = let w = within_is offset e in absurd (omega (arith, w.1))

  first_of : (g h : Held) → g.piece ≡ h.piece → g.piece.first ≡ h.piece.first
  first_of g h e = ap (λ (p : Piece). p.first) e

  straddles_too : (g h : Held) → g.piece ≡ h.piece → Straddles h → Straddles g
  straddles_too g h e s = let same : g.piece.first ≡ h.piece.first = first_of g h e in
      record { low = omega (arith, s.low); high = omega (arith, s.high) }

  -- an old byte of a piece that loses nothing is still at its offset
  still : (k : ℕ) (g h : Held) → bytes k ≡ Some g → g.piece ≡ h.piece → (Straddles h → ⊥)
      → (f.offset ≤ k → k < fragment_end f → h.piece.first ≤ f.offset)
      → (x : Held) × (overlay bytes f k ≡ Some x) × (x.piece ≡ h.piece)
  still k g h at e not early = go (is_within f k) refl
    where
      kept : Cut g → is_within f k ≡ false → (x : Held) × (overlay bytes f k ≡ Some x) × (x.piece ≡ h.piece)
      kept (inl (s, is)) t = absurd (not (straddles_too h g (sym e) s))
      kept (inr (n, is)) t = (cut_back f g, at_kept k g t at, ap (λ (x : Held). x.piece) is ∙ e)

      go : (b : Bool) → is_within f k ≡ b → (x : Held) × (overlay bytes f k ≡ Some x) × (x.piece ≡ h.piece)
      go true t =
          let w = within_is k t in
          let le : h.piece.first ≤ f.offset = early w.0 w.1 in (
            g,
            at_stayed k g w.0 w.1 at (let same : g.piece.first ≡ h.piece.first = first_of g h e in omega (arith, le)),
            e,
          )
      go false t = kept (cut g) t

  stayed_place : (offset : ℕ) (h : Held) → Stayed offset h → IsConsistentAt c (overlay bytes f) offset h
  stayed_place offset h s =
      let p = is_map offset h s.was in
      record {
        inside = p.inside;
        first = p.first;
        filled = λ k low high. let at = p.filled k low high in
            still k at.0 h at.1 at.2 (λ t. omega (arith, t.low, s.early)) (λ l m. s.early);
        carries = p.carries;
      }

  brought_place : (offset : ℕ) → f.offset ≤ offset → offset < fragment_end f → stays f.offset (bytes offset) ≡ false
      → IsConsistentAt c (overlay bytes f) offset (brought bytes f offset)
  brought_place offset low high new = record {
    inside = omega arith;
    first = (owned_from offset low high).1 new;
    filled =
        λ k l m. (
          brought bytes f k,
          at_brought k (omega (arith, owned_low)) (omega arith) (fails k l (omega arith) refl),
          refl,
        );
    carries =
        carries_less c f.weight (offset + 1 - first_owned bytes f) (length f.bytes) (omega (arith, owned_low)) carries;
  }
    where
      fails : (k : ℕ) → first_owned bytes f ≤ k → k < fragment_end f → {b : Bool} → stays f.offset (bytes k) ≡ b
          → stays f.offset (bytes k) ≡ false
      fails k l m {b = false} e = e
      fails k l m {b = true} e = let below = (owned_from k (omega (arith, owned_low)) m).0 e in absurd (omega arith)

  kept_place : (offset : ℕ) (h old : Held) → bytes offset ≡ Some old → is_within f offset ≡ false → h ≡ cut_back f old
      → IsConsistentAt c (overlay bytes f) offset h
  kept_place offset h old was out is = go (cut old) (not_within offset out)
    where
      p : IsConsistentAt c bytes offset old
      p = is_map offset old was

      go : (Straddles old × (cut_back f old ≡ record old { piece = record (old.piece) { first = fragment_end f } }))
          ⊎ ((Straddles old → ⊥) × (cut_back f old ≡ old)) → (offset < f.offset) ⊎ (fragment_end f ≤ offset)
          → IsConsistentAt c (overlay bytes f) offset h
      go (inl (s, e)) (inl before) = absurd (let first : old.piece.first ≤ offset = p.first in omega (arith, s.low))
      go (inl (s, e)) (inr past) = subst (IsConsistentAt c (overlay bytes f) offset) (sym (is ∙ e)) (record {
        inside = p.inside;
        first = past;
        filled = λ k low high.
            let at = p.filled k (omega (arith, s.high)) high in
            (cut_back f at.0, at_kept k at.0 (outside_is k (inr low)) at.1, trimmed at.0 at.2 (cut at.0));
        carries =
            carries_less c old.piece.weight (offset + 1 - fragment_end f) (offset + 1 - old.piece.first)
            (omega (arith, s.high)) p.carries;
      })
        where
          trimmed : (g : Held) → g.piece ≡ old.piece
              → (Straddles g × (cut_back f g ≡ record g { piece = record (g.piece) { first = fragment_end f } }))
              ⊎ ((Straddles g → ⊥) × (cut_back f g ≡ g))
              → (cut_back f g).piece ≡ record (old.piece) { first = fragment_end f }
          trimmed g same (inl (t, x)) =
              ap (λ (y : Held). y.piece) x ∙ ap (λ (q : Piece). record q { first = fragment_end f }) same
          trimmed g same (inr (n, x)) = absurd (n (straddles_too g old same s))
      go (inr (n, e)) away = subst (IsConsistentAt c (overlay bytes f) offset) (sym (is ∙ e)) (record {
        inside = p.inside;
        first = p.first;
        filled = λ k low high. let at = p.filled k low high in
            still k at.0 old at.1 at.2 n (λ l m. early k low m (cases_lt f.offset old.piece.first));
        carries = p.carries;
      })
        where
          early : (k : ℕ) → old.piece.first ≤ k → k < fragment_end f
              → (f.offset < old.piece.first) ⊎ (old.piece.first ≤ f.offset) → old.piece.first ≤ f.offset
          early k low m (inr le) = le
          early k low m (inl lt) = absurd (n (record { low = lt; high = omega arith }))

  pub overlay_is : IsMap c (overlay bytes f)
  overlay_is offset h e = go (outcome offset h e)
    where
      go : Stayed offset h ⊎ (Brought offset h ⊎ Kept offset h) → IsConsistentAt c (overlay bytes f) offset h
      go (inl s) = stayed_place offset h s
      go (inr (inl b)) =
          subst (IsConsistentAt c (overlay bytes f) offset) (sym b.is) (brought_place offset b.low b.high b.new)
      go (inr (inr k)) = kept_place offset h k.old k.was k.outside k.is

  -- ---- the weight

  starts_is : (offset : ℕ) (h : Held) → starts offset (Some h) ≡ spike h.piece.first h.piece.weight.mbufs offset
  unfolding starts
  starts_is offset h = go (h.piece.first == offset) refl (offset == h.piece.first) refl
    where
      go : (b : Bool) → (h.piece.first == offset) ≡ b → (d : Bool) → (offset == h.piece.first) ≡ d
          → cond b h.piece.weight.mbufs 0 ≡ cond d h.piece.weight.mbufs 0
      go true e true t = refl
      go false e false t = refl
      go true e false t = absurd (eqb-false _ _ t (sym (eqb-true _ _ e)))
      go false e true t = absurd (eqb-false _ _ e (sym (eqb-true _ _ t)))

  -- If no cut piece begins at the offset now, the weight there is at most the old one and the fragment's.
  no_more : (offset : ℕ) → ((h : Held) → offset ≡ fragment_end f → bytes offset ≡ Some h → Straddles h → ⊥)
      → starts offset (overlay bytes f offset)
      ≤ starts offset (bytes offset) + spike (first_owned bytes f) f.weight.mbufs offset
  no_more offset not = go (overlay bytes f offset) refl
    where
      same_start : (h g : Held) → bytes offset ≡ Some g → h ≡ g
          → starts offset (Some h) ≤ starts offset (bytes offset) + spike (first_owned bytes f) f.weight.mbufs offset
      same_start h g at e =
          let equal : starts offset (Some h) ≡ starts offset (bytes offset) =
          ap (λ x. starts offset (Some x)) e ∙ ap (starts offset) (sym at) in omega arith

      kept : (h old : Held) → bytes offset ≡ Some old → is_within f offset ≡ false → h ≡ cut_back f old
          → (Straddles old × (cut_back f old ≡ record old { piece = record (old.piece) { first = fragment_end f } }))
          ⊎ ((Straddles old → ⊥) × (cut_back f old ≡ old))
          → starts offset (Some h) ≤ starts offset (bytes offset) + spike (first_owned bytes f) f.weight.mbufs offset
      kept h old at out is (inr (n, e)) = same_start h old at (is ∙ e)
      kept h old at out is (inl (s, e)) =
          let shape : starts offset (Some h) ≡ spike (fragment_end f) old.piece.weight.mbufs offset =
          ap (λ x. starts offset (Some x)) (is ∙ e)
          ∙ starts_is offset (record old { piece = record (old.piece) { first = fragment_end f } }) in
          let none : spike (fragment_end f) old.piece.weight.mbufs offset ≡ 0 =
          elsewhere (offset == fragment_end f) refl in
          omega arith
        where
          elsewhere : (b : Bool) → (offset == fragment_end f) ≡ b → cond b old.piece.weight.mbufs 0 ≡ 0
          elsewhere false t = refl
          elsewhere true t = absurd (not old (eqb-true _ _ t) at s)

      some : (h : Held) → Stayed offset h ⊎ (Brought offset h ⊎ Kept offset h)
          → starts offset (Some h) ≤ starts offset (bytes offset) + spike (first_owned bytes f) f.weight.mbufs offset
      some h (inl s) = same_start h h s.was refl
      some h (inr (inl b)) =
          let shape : starts offset (Some h) ≡ spike (first_owned bytes f) f.weight.mbufs offset =
          ap (λ x. starts offset (Some x)) b.is ∙ starts_is offset (brought bytes f offset) in omega arith
      some h (inr (inr k)) = kept h k.old k.was k.outside k.is (cut k.old)

      go : (x : Option Held) → overlay bytes f offset ≡ x
          → starts offset x ≤ starts offset (bytes offset) + spike (first_owned bytes f) f.weight.mbufs offset
      go (Some h) e = some h (outcome offset h e)
      go None e = nothing_there
        where
          nothing_there : starts offset None
              ≤ starts offset (bytes offset) + spike (first_owned bytes f) f.weight.mbufs offset
          nothing_there = let z : starts offset None ≡ 0 = none_starts offset in omega arith

  sum_of : (g h : ℕ → ℕ) → total (λ k. g k + h k) 0 65515 ≡ total g 0 65515 + total h 0 65515
  sum_of g h = total_add g h 0 65515

  -- No piece is cut after the fragment.
  uncut : ((h : Held) → bytes (fragment_end f) ≡ Some h → Straddles h → ⊥)
      → total (λ k. starts k (overlay bytes f k)) 0 65515 ≤ total (λ k. starts k (bytes k)) 0 65515 + f.weight.mbufs
  uncut not =
      let le =
      total_le (λ k. starts k (overlay bytes f k))
      (λ k. starts k (bytes k) + spike (first_owned bytes f) f.weight.mbufs k) 0 65515
      (λ k low high. no_more k (λ h e at s. not h (subst (λ j. bytes j ≡ Some h) e at) s)) in
      let both = sum_of (λ k. starts k (bytes k)) (spike (first_owned bytes f) f.weight.mbufs) in
      let most = total_spike_most (first_owned bytes f) f.weight.mbufs 0 65515 in
      omega arith

  -- One piece is cut: it begins after the fragment now, and no longer at its old offset.
  is_cut : (s : Held) → bytes (fragment_end f) ≡ Some s → Straddles s
      → total (λ k. starts k (overlay bytes f k)) 0 65515 ≤ total (λ k. starts k (bytes k)) 0 65515 + f.weight.mbufs
  is_cut s at straddles =
      let le =
      total_le (λ k. starts k (overlay bytes f k) + spike p v k)
      (λ k. starts k (bytes k) + spike (first_owned bytes f) f.weight.mbufs k + spike (fragment_end f) v k) 0 65515
      (λ k low high. each k) in
      let left = sum_of (λ k. starts k (overlay bytes f k)) (spike p v) in
      let right =
      sum_of (λ k. starts k (bytes k) + spike (first_owned bytes f) f.weight.mbufs k) (spike (fragment_end f) v) in
      let inner = sum_of (λ k. starts k (bytes k)) (spike (first_owned bytes f) f.weight.mbufs) in
      let most = total_spike_most (first_owned bytes f) f.weight.mbufs 0 65515 in
      let here = total_spike p v 0 65515 (omega arith) (omega (arith, straddles.high)) in
      let there = total_spike_most (fragment_end f) v 0 65515 in
      omega arith
    where
      p : ℕ
      p = s.piece.first

      v : ℕ
      v = s.piece.weight.mbufs

      -- at the piece's old offset
      at_first : (k : ℕ) → k ≡ s.piece.first
          → starts k (overlay bytes f k) + s.piece.weight.mbufs
          ≤ starts k (bytes k) + spike (first_owned bytes f) f.weight.mbufs k
      at_first k e =
          let place = is_map (fragment_end f) s at in
          let g = place.filled k (omega arith) (omega (arith, straddles.high)) in
          let gp : g.0.piece.first ≡ s.piece.first = ap (λ (q : Piece). q.first) g.2 in
          let gw : g.0.piece.weight.mbufs ≡ s.piece.weight.mbufs = ap (λ (q : Piece). q.weight.mbufs) g.2 in
          let was : starts k (bytes k) ≡ g.0.piece.weight.mbufs =
          ap (starts k) g.1 ∙ starts_is k g.0 ∙ spike_here g.0.piece.first g.0.piece.weight.mbufs k (e ∙ sym gp) in
          let low : f.offset ≤ k = omega (arith, straddles.low) in
          let high : k < fragment_end f = omega (arith, straddles.high) in
          let goes : stays f.offset (bytes k) ≡ false =
          ap (stays f.offset) g.1 ∙ lt-leb g.0.piece.first f.offset (omega (arith, straddles.low)) in
          let now : starts k (overlay bytes f k) ≡ spike (first_owned bytes f) f.weight.mbufs k =
          ap (starts k) (at_brought k low high goes) ∙ starts_is k (brought bytes f k) in
          omega arith

      -- at its new offset
      at_after : (k : ℕ) → k ≡ fragment_end f → starts k (overlay bytes f k) ≤ s.piece.weight.mbufs
      at_after k e =
          let out : is_within f k ≡ false = outside_is k (inr (omega arith)) in
          go (cut s) (at_kept k s out (subst (λ j. bytes j ≡ Some s) (sym e) at))
        where
          go : (Straddles s × (cut_back f s ≡ record s { piece = record (s.piece) { first = fragment_end f } }))
              ⊎ ((Straddles s → ⊥) × (cut_back f s ≡ s)) → overlay bytes f k ≡ Some (cut_back f s)
              → starts k (overlay bytes f k) ≤ s.piece.weight.mbufs
          go (inr (n, x)) y = absurd (n straddles)
          go (inl (t, x)) y =
              let is : starts k (overlay bytes f k) ≡ spike (fragment_end f) s.piece.weight.mbufs k =
              ap (starts k) y ∙ ap (λ z. starts k (Some z)) x
              ∙ starts_is k (record s { piece = record (s.piece) { first = fragment_end f } }) in
              let one : spike (fragment_end f) s.piece.weight.mbufs k ≡ s.piece.weight.mbufs =
              spike_here (fragment_end f) s.piece.weight.mbufs k e in
              omega arith

      each : (k : ℕ) → starts k (overlay bytes f k) + spike p v k
          ≤ starts k (bytes k) + spike (first_owned bytes f) f.weight.mbufs k + spike (fragment_end f) v k
      each k = go (k == p) refl (k == fragment_end f) refl
        where
          go : (a : Bool) → (k == p) ≡ a → (b : Bool) → (k == fragment_end f) ≡ b
              → starts k (overlay bytes f k) + cond a v 0
              ≤ starts k (bytes k) + spike (first_owned bytes f) f.weight.mbufs k + cond b v 0
          go true e b t = let le = at_first k (eqb-true k p e) in omega arith
          go false e true t = let le = at_after k (eqb-true k (fragment_end f) t) in omega arith
          go false e false t = let le = no_more k (λ h is at s. eqb-false k (fragment_end f) t is) in omega arith

  pub overlay_mbufs : (weight_of_pieces (overlay bytes f)).mbufs ≤ (weight_of_pieces bytes).mbufs + f.weight.mbufs
  overlay_mbufs =
      let new = pieces_mbufs (overlay bytes f) in
      let old = pieces_mbufs bytes in
      let le = go (bytes (fragment_end f)) refl in
      omega arith
    where
      go : (x : Option Held) → bytes (fragment_end f) ≡ x
          → total (λ k. starts k (overlay bytes f k)) 0 65515 ≤ total (λ k. starts k (bytes k)) 0 65515 + f.weight.mbufs
      go None e = uncut (λ h at s. absurd (none-some h (sym e ∙ at)))
      go (Some h) e = split (cases_lt f.offset h.piece.first) (cases_lt h.piece.first (fragment_end f))
        where
          whole : (Straddles h → ⊥) → total (λ k. starts k (overlay bytes f k)) 0 65515
              ≤ total (λ k. starts k (bytes k)) 0 65515 + f.weight.mbufs
          whole n = uncut (λ g at s. n (subst Straddles (same_Some g h (sym at ∙ e)) s))

          split : (f.offset < h.piece.first) ⊎ (h.piece.first ≤ f.offset)
              → (h.piece.first < fragment_end f) ⊎ (fragment_end f ≤ h.piece.first)
              → total (λ k. starts k (overlay bytes f k)) 0 65515
              ≤ total (λ k. starts k (bytes k)) 0 65515 + f.weight.mbufs
          split (inl a) (inl b) = is_cut h e (record { low = a; high = b })
          split (inr a) b = whole (λ s. omega (arith, s.low))
          split (inl a) (inr b) = whole (λ s. omega (arith, s.high))
