-- The fragments of one datagram as they arrive.
use Rattle.std.proofs.Common.{◌≡◌, ℕ, zero, suc, ◌+◌, ◌-◌, ◌*◌, ◌%◌, ◌<◌, ◌≤◌, true, false, List, [], ◌∷◌, length, drop, get_or, refl, sym, ◌∙◌, ap, subst, ◌⊎◌, inl, inr, arith, min, Option, Some, None}
use Rattle.std.specs.Prelude.{Contains, Any, slice_index_or}
use Rattle.std.specs.List.{AllByRecursion as Each}
use Rattle.std.proofs.Math.Nat.{mul-le-mul_right}
use Rattle.std.proofs.lemmas.Bool.{cases_lt, lt-ltb, ltb-true, leb-true}
use Rattle.std.proofs.lemmas.List.{length-take, length-drop}
use Rattle.std.proofs.lemmas.List.Elements.{All-from_recursion}
use Rattle.std.proofs.lemmas.Option.{none-some}
use Rattle.flat_model.specs.Fragments.Cuts.{Part, part, chunk, chunks, cuts}
use Rattle.flat_model.specs.Fragments.Overlay.{Held, Fragment, fragment_end, is_covered, first_owned}
use Rattle.flat_model.specs.Runs.Laws.{bytes_of_part}
use Rattle.flat_model.proofs.Laws.{chunk_some, chunks_needed, length-grid, cuts_short, cuts_long, IsMapOf}
use Rattle.flat_wire.specs.Overlays.{IsFragmentOf, inserted}
use Rattle.flat_wire.proofs.Grid.{cuts_grid, index_of}
use Rattle.flat_wire.proofs.Inserting.{IsCut, IsIn, IsMade, first_is, fragment_end_is, same_index}
use Rattle.flat_wire.proofs.Maps.{overlay_is_map}
use Rattle.flat_wire.proofs.Order.{Index, inserted_made, cut_of, any_from_index}
use Rattle.flat_wire.proofs.Second.{IsFrag}
use Rattle.flat_wire.proofs.Stretch.{part_is_stretch}

-- the only part of a string that isn't cut
only : (n : ℕ) (p : Part) → Contains (record { offset = 0; size = n; more = false } ∷ []) p → p.more ≡ false
only n p is = go is.0 is.1 is.2
  where
    go : (k : ℕ) → k < 1 → get_or (record { offset = 0; size = n; more = false } ∷ []) k p ≡ p → p.more ≡ false
    go zero l e = ap (λ (q : Part). q.more) (sym e)
    go (suc k) l e = absurd (omega (arith, l))

-- if there is more than one part, each is a fragment
pub parts_are_fragments : (n mtu : ℕ) (p : Part) → 28 ≤ mtu → 1 < length (cuts n mtu) → Contains (cuts n mtu) p
    → IsFrag p
parts_are_fragments n mtu p low many is = go (cases_lt mtu (20 + n))
  where
    long : (i : ℕ) → 1 < chunks n (chunk mtu) → p ≡ part n (chunk mtu) i → IsFrag p
    long zero more e =
        inl (ap (λ (q : Part). q.more) e
        ∙ lt-ltb ((0 + 1) * chunk mtu) n
        (let needed : 1 * chunk mtu < n =
        chunks_needed n (chunk mtu) 1 (omega (arith, chunk_some mtu low)) more in omega arith))
    long (suc i) more e =
        let at : p.offset ≡ suc i * chunk mtu = ap (λ (q : Part). q.offset) e in
        let some : 1 * chunk mtu ≤ suc i * chunk mtu =
        mul-le-mul_right {m = 1} {n = suc i} (chunk mtu) (omega arith) in
        inr (omega (arith, at, some, chunk_some mtu low))

    go : (mtu < 20 + n) ⊎ (20 + n ≤ mtu) → IsFrag p
    go (inl h) =
        let at =
        index_of n (chunk mtu) p (omega (arith, chunk_some mtu low))
        (subst (λ (ps : List Part). Contains ps p) (cuts_long n mtu h) is) in
        long at.0 (omega (arith, many, ap length (cuts_long n mtu h), length-grid n (chunk mtu))) at.2
    go (inr h) = absurd (omega (arith, many, ap length (cuts_short n mtu h)))

-- a part that more parts follow is a multiple of 8 long
pub parts_are_multiples : (s : List ℕ) (mtu : ℕ) (p : Part) → 28 ≤ mtu → Contains (cuts (length s) mtu) p
    → p.more ≡ true → length (bytes_of_part s p) % 8 ≡ 0
parts_are_multiples s mtu p low is more = go (cases_lt mtu (20 + length s))
  where
    no : false ≡ true → ⊥
    no e = cc

    long : (i : ℕ) → p ≡ part (length s) (chunk mtu) i → length (bytes_of_part s p) % 8 ≡ 0
    long i e =
        let follows : (i + 1) * chunk mtu < length s =
        ltb-true _ _ (sym (ap (λ (q : Part). q.more) e) ∙ more) in
        let offset : p.offset ≡ i * chunk mtu = ap (λ (q : Part). q.offset) e in
        let size : p.size ≡ min (chunk mtu) (length s - i * chunk mtu) = ap (λ (q : Part). q.size) e in
        let full : length (bytes_of_part s p) ≡ chunk mtu =
        omega (arith, length-take p.size (drop p.offset s), length-drop p.offset s, offset, size, follows) in
        omega (arith, full)

    go : (mtu < 20 + length s) ⊎ (20 + length s ≤ mtu) → length (bytes_of_part s p) % 8 ≡ 0
    go (inl h) =
        let at =
        index_of (length s) (chunk mtu) p (omega (arith, chunk_some mtu low))
        (subst (λ (ps : List Part). Contains ps p) (cuts_long (length s) mtu h) is) in
        long at.0 at.2
    go (inr h) =
        absurd (no (sym (only (length s) p
        (subst (λ (ps : List Part). Contains ps p) (cuts_short (length s) mtu h) is)) ∙ more))

module _ (s : List ℕ) (mtu : ℕ) (any : 0 < length s) (low : 28 ≤ mtu) where
  abbrev pub AreFragments : List Fragment → Type 0
  AreFragments fs = Each (IsFragmentOf s mtu) fs

  -- a fragment whose bytes are all covered arrived before
  pub covered_is_in : (fs : List Fragment) → AreFragments fs → (f : Fragment) → IsFragmentOf s mtu f
      → is_covered (inserted fs) f ≡ true → Any (λ g. g.offset ≡ f.offset) fs
  covered_is_in fs are f is covered =
      let g = cuts_grid (length s) mtu any low in
      let cut = cut_of s mtu g.0 g.1 g.2 f is in
      let all = All-from_recursion (IsFragmentOf s mtu) fs are in
      let made : IsMade s g.0 (inserted fs) (Index g.0 fs) =
      inserted_made s g.0 g.1 fs (λ k d l. cut_of s mtu g.0 g.1 g.2 (slice_index_or fs k d) (all k d l)) in
      go g.0 g.1 cut.0 cut.1 made (inserted fs (cut.0 * g.0)) refl
    where
      go : (c : ℕ) → 0 < c → (j : ℕ) (cut : IsCut s c f j) (made : IsMade s c (inserted fs) (Index c fs))
          → (old : Option Held) → inserted fs (j * c) ≡ old → Any (λ g. g.offset ≡ f.offset) fs
      go c some j cut made old e = at old e
        where
          here : IsIn (length s) c j (j * c)
          here = record { low = omega arith; high = omega (arith, cut.inside, some) }

          at : (old : Option Held) → inserted fs (j * c) ≡ old → Any (λ g. g.offset ≡ f.offset) fs
          at None none =
              let owned : first_owned (inserted fs) f ≡ j * c =
              first_is s c (inserted fs) (Index c fs) made f j cut (j * c) here none in
              let end : fragment_end f ≤ first_owned (inserted fs) f = leb-true _ _ covered in
              absurd (omega (arith, owned, end, fragment_end_is s c f j cut, here.high))
          at (Some h) held =
              let m = made.held (j * c) h held in
              let same : m.0 ≡ j = same_index (length s) c m.0 j (j * c) m.2.place here in
              subst (λ offset. Any (λ g. g.offset ≡ offset) fs) (sym cut.offset)
              (any_from_index c j fs (subst (Index c fs) same m.1))

  -- they store only bytes of the datagram
  pub inserted_is_map : (fs : List Fragment) → AreFragments fs → IsMapOf s (inserted fs)
  inserted_is_map [] are = record {
    inside = λ offset h e. absurd (none-some h e);
    byte = λ offset h e. absurd (none-some h e);
    ended = λ offset h e. absurd (none-some h e);
  }
  inserted_is_map (f ∷ fs) are =
      overlay_is_map (inserted fs) f s (inserted_is_map fs are.1)
      (part_is_stretch s mtu are.0.part f any low are.0.is_part are.0.offset are.0.bytes are.0.more)
