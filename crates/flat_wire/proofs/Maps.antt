-- A map that has only bytes of one datagram stays one as fragments of that datagram arrive.
use Rattle.std.proofs.Common.{◌≡◌, ℕ, ◌-◌, ◌<◌, ◌≤◌, Bool, true, false, List, length, refl, sym, ◌∙◌, ap, ◌⊎◌, inl, inr, arith, Option, Some, None, cond}
use Rattle.std.specs.Prelude.{nat_lt, nat_le, slice_index, IsSome, IfSome, ◌&&◌}
use Rattle.std.proofs.lemmas.Option.{none-some, same_Some}
use Rattle.std.proofs.lemmas.Bool.{false≢true, leb-true, ltb-true, le-leb, lt-ltb, and_parts, and_from}
use Rattle.flat_model.specs.Fragments.Overlay.{Held, Map, Fragment, fragment_end, brought, is_within, lies, overlay}
use Rattle.flat_model.specs.Fragments.Whole.{IsWhole}
use Rattle.flat_model.proofs.Laws.{IsMapOf}

-- the fragment is a stretch of t, and ends at t's end if it's the last
pub record IsStretch (t : List ℕ) (f : Fragment) : Type 0 where
  pub some : 0 < length f.bytes
  pub fits : fragment_end f ≤ length t
  pub bytes : (offset : ℕ) → f.offset ≤ offset → offset < fragment_end f
      → slice_index f.bytes (offset - f.offset) ≡ slice_index t offset
  pub last : f.more ≡ false → fragment_end f ≡ length t

module _ (bytes : Map) (f : Fragment) where
  some_stays : (offset : ℕ) (w : Bool) (old : Option Held) → IsSome old → IsSome (lies bytes f offset w old)
  some_stays offset true None e = absurd (false≢true e)
  some_stays offset false None e = e
  some_stays offset false (Some g) e = refl
  some_stays offset true (Some g) e = go (nat_le g.piece.first f.offset)
    where
      go : (b : Bool) → IsSome (cond b (Some g) (Some (brought bytes f offset)))
      go true = refl
      go false = refl

  some_brought : (offset : ℕ) (old : Option Held) → IsSome (lies bytes f offset true old)
  some_brought offset None = refl
  some_brought offset (Some g) = some_stays offset true (Some g) refl

  pub overlay_keeps : (offset : ℕ) → IsSome (bytes offset) → IsSome (overlay bytes f offset)
  unfolding overlay
  overlay_keeps offset e = some_stays offset (is_within f offset) (bytes offset) e

  pub overlay_brings : (offset : ℕ) → f.offset ≤ offset → offset < fragment_end f → IsSome (overlay bytes f offset)
  unfolding overlay
  overlay_brings offset low high =
      rw (and_from _ _ (le-leb f.offset offset low) (lt-ltb offset (fragment_end f) high))
      (some_brought offset (bytes offset))

  -- the byte was there before; only the first offset of its piece may differ
  abbrev Was : ℕ → Held → Type 0
  Was offset h = (g : Held) × (bytes offset ≡ Some g) × (h.byte ≡ g.byte) × (h.piece.more ≡ g.piece.more)

  abbrev Is : ℕ → Held → Type 0
  Is offset h = (f.offset ≤ offset) × (offset < fragment_end f) × (h ≡ brought bytes f offset)

  within : (offset : ℕ) → is_within f offset ≡ true → (f.offset ≤ offset) × (offset < fragment_end f)
  within offset e = let parts = and_parts (nat_le f.offset offset) (nat_lt offset (fragment_end f)) e in
      (leb-true _ _ parts.0, ltb-true _ _ parts.1)

  origin : (offset : ℕ) (h : Held) (w : Bool) (old : Option Held) → is_within f offset ≡ w → bytes offset ≡ old
      → lies bytes f offset w old ≡ Some h → Was offset h ⊎ Is offset h
  origin offset h true None ew eo e = let in_it = within offset ew in inr (in_it.0, in_it.1, sym (same_Some _ _ e))
  origin offset h true (Some g) ew eo e = go (nat_le g.piece.first f.offset) e
    where
      go : (b : Bool) → cond b (Some g) (Some (brought bytes f offset)) ≡ Some h → Was offset h ⊎ Is offset h
      go true e = let same : g ≡ h = same_Some _ _ e in
          inl (g, eo, ap (λ (x : Held). x.byte) (sym same), ap (λ (x : Held). x.piece.more) (sym same))
      go false e = let in_it = within offset ew in inr (in_it.0, in_it.1, sym (same_Some _ _ e))
  origin offset h false None ew eo e = absurd (none-some h e)
  origin offset h false (Some g) ew eo e =
      go (nat_lt f.offset g.piece.first && nat_lt g.piece.first (fragment_end f)) (same_Some _ _ e)
    where
      go : (b : Bool) → cond b (record g { piece = record (g.piece) { first = fragment_end f } }) g ≡ h
          → Was offset h ⊎ Is offset h
      go true e = inl (g, eo, ap (λ (x : Held). x.byte) (sym e), ap (λ (x : Held). x.piece.more) (sym e))
      go false e = inl (g, eo, ap (λ (x : Held). x.byte) (sym e), ap (λ (x : Held). x.piece.more) (sym e))

  overlay_origin : (offset : ℕ) (h : Held) → overlay bytes f offset ≡ Some h → Was offset h ⊎ Is offset h
  unfolding overlay
  overlay_origin offset h e = origin offset h (is_within f offset) (bytes offset) refl refl e

  pub overlay_is_map : (t : List ℕ) → IsMapOf t bytes → IsStretch t f → IsMapOf t (overlay bytes f)
  overlay_is_map t m is = record {
    inside = λ offset h e. inside offset h (overlay_origin offset h e);
    byte = λ offset h e. byte offset h (overlay_origin offset h e);
    ended = λ offset h e closed. ended offset h (overlay_origin offset h e) closed;
  }
    where
      inside : (offset : ℕ) (h : Held) → Was offset h ⊎ Is offset h → offset < length t
      inside offset h (inl w) = m.inside offset w.0 w.1
      inside offset h (inr b) = omega (arith, b.1, is.fits)

      byte : (offset : ℕ) (h : Held) → Was offset h ⊎ Is offset h → h.byte ≡ slice_index t offset
      byte offset h (inl w) = w.2 ∙ m.byte offset w.0 w.1
      byte offset h (inr b) = ap (λ (x : Held). x.byte) b.2 ∙ is.bytes offset b.0 b.1

      ended : (offset : ℕ) (h : Held) → Was offset h ⊎ Is offset h → h.piece.more ≡ false
          → IsSome (overlay bytes f (length t - 1))
      ended offset h (inl w) closed = overlay_keeps (length t - 1) (m.ended offset w.0 w.1 (sym w.3 ∙ closed))
      ended offset h (inr b) closed =
          let at : fragment_end f ≡ length t = is.last (sym (ap (λ (x : Held). x.piece.more) b.2) ∙ closed) in
          overlay_brings (length t - 1) (omega (arith, is.some)) (omega (arith, is.some))

  -- a piece that is the last of its datagram was there before, or is the fragment's
  pub overlay_closed : (Q : Type 0) → ((offset : ℕ) (h : Held) → bytes offset ≡ Some h → h.piece.more ≡ false → Q)
      → (f.more ≡ false → Q) → (offset : ℕ) (h : Held) → overlay bytes f offset ≡ Some h → h.piece.more ≡ false → Q
  overlay_closed Q old new offset h e closed = go (overlay_origin offset h e)
    where
      go : Was offset h ⊎ Is offset h → Q
      go (inl w) = old offset w.0 w.1 (sym w.3 ∙ closed)
      go (inr b) = new (sym (ap (λ (x : Held). x.piece.more) b.2) ∙ closed)

-- the last byte of a whole map is of a piece that has no more after it
pub whole_closed : (bytes : Map) (n : ℕ) → IsWhole bytes n → (Q : Type 0)
    → ((offset : ℕ) (h : Held) → bytes offset ≡ Some h → h.piece.more ≡ false → Q) → Q
whole_closed bytes n w Q closes = go (bytes (n - 1)) refl (w.filled (n - 1) (omega (arith, w.some))) w.last
  where
    go : (x : Option Held) → bytes (n - 1) ≡ x → IsSome x → IfSome x (λ held. held.piece.more ≡ false) → Q
    go None e there last = absurd (false≢true there)
    go (Some h) e there last = closes (n - 1) h e last
