-- When fragments make a whole datagram, and its bytes.
use Rattle.std.proofs.Common.{◌≡◌, ℕ, zero, suc, ◌+◌, ◌-◌, ◌<◌, ◌≤◌, Bool, true, false, List, [], ◌∷◌, length, get_or, Option, None, Some, refl, sym, ap, ◌∙◌, subst, inl, inr, arith, length-append, ◌++◌}
use Rattle.std.specs.Prelude.{IsSome, IfSome}
use Rattle.std.proofs.lemmas.Bool.{cases_lt, false≢true}
use Rattle.std.proofs.lemmas.List.{get_or-append_right, get_or_append_left}
use Rattle.flat_model.specs.Fragments.Overlay.{Held}
use Rattle.flat_model.specs.Fragments.Whole.{IsWhole, bytes_below}
use Rattle.flat_model.proofs.Laws.{whole_bytes}
use Rattle.flat_model.specs.Fragments.Overlay.{Fragment}
use Rattle.ip_reass.specs.Fragments.{end_of_fragment, own, map_of, bytes_held, AllEnd, Apart}
use Rattle.ip_reass.specs.Inside.Walks.{reach, bytes_of, fragment_at, trimmed, left_from}
use Rattle.ip_reass.specs.Inside.Known.{known_here, known_below, known_past, below, within, past, known_place, nothing_below, nothing_past, reach_grows, left_after, left_whole, left_none, left_cut, end_trimmed}

-- each begins at the end of the one before, and the first at low
abbrev pub InRow : ℕ → List Fragment → Type 0
InRow low [] = Unit {0}
InRow low (p ∷ ps) = (p.offset ≡ low) × InRow (end_of_fragment p) ps

-- whether more fragments follow the last one
abbrev pub last_more : List Fragment → Bool
last_more [] = true
last_more (p ∷ []) = p.more
last_more (p ∷ q ∷ ps) = last_more (q ∷ ps)

pub row_known : (low : ℕ) (ps : List Fragment) (k : ℕ) → InRow low ps → low ≤ k → k < reach low ps
    → IsSome (map_of ps k)
row_known low [] k r l m = absurd (omega arith)
row_known low (p ∷ ps) k r l m = elim (cases_lt k (end_of_fragment p)) [
  | inl b ↦ subst IsSome (sym (known_here p ps k (omega arith) b)) refl
  | inr b ↦ subst IsSome (sym (known_past p ps k b)) (row_known (end_of_fragment p) ps k r.1 b m)
]

-- a known byte is below the end of the last fragment
pub known_end : (low : ℕ) (ps : List Fragment) (k : ℕ) → Apart low ps → IsSome (map_of ps k) → k < reach low ps
known_end low ps k a h = elim (cases_lt k (reach low ps)) [
  | inl l ↦ l
  | inr l ↦ absurd (false≢true (subst IsSome (nothing_past low ps k a l) h))
]

-- the last byte is the last fragment's
pub last_is : (low : ℕ) (p : Fragment) (ps : List Fragment) (k : ℕ) → Apart low (p ∷ ps) → k + 1 ≡ reach low (p ∷ ps)
    → (c : Held) × (map_of (p ∷ ps) k ≡ Some c) × (c.piece.more ≡ last_more (p ∷ ps))
last_is low p [] k a e = (own p k, known_here p [] k (omega arith) (omega arith), refl)
last_is low p (q ∷ ps) k a e =
    let g : end_of_fragment q ≤ reach (end_of_fragment q) ps = reach_grows (end_of_fragment q) ps a.2.2 in
    let r = last_is (end_of_fragment p) q ps k a.2 e in
    (r.0, known_past p (q ∷ ps) k (omega arith) ∙ r.1, r.2)

-- **contiguous fragments are whole if the last one has no more after it**
pub whole_from : (ps : List Fragment) (n : ℕ) → Apart 0 ps → InRow 0 ps → last_more ps ≡ false → n ≡ reach 0 ps
    → IsWhole (map_of ps) n
whole_from [] n a row last e = absurd (let f : true ≡ false = last in cc)
whole_from (p ∷ ps) n a row last e =
    let g : end_of_fragment p ≤ reach (end_of_fragment p) ps = reach_grows (end_of_fragment p) ps a.2 in
    let r = last_is 0 p ps (n - 1) a (omega arith) in
    record {
      some = omega arith;
      filled = λ k l. row_known 0 (p ∷ ps) k row (omega arith) (omega arith);
      ended = λ k h. omega (arith, known_end 0 (p ∷ ps) k a h);
      last = subst (λ (o : Option Held). IfSome o (λ held. held.piece.more ≡ false)) (sym r.1) (r.2 ∙ last);
    }

pub row_from : (low n : ℕ) (ps : List Fragment) → Apart low ps → low ≤ n
    → ((k : ℕ) → low ≤ k → k < n → IsSome (map_of ps k)) → ((k : ℕ) → IsSome (map_of ps k) → k < n)
    → InRow low ps × (reach low ps ≡ n)
row_from low n [] a l some none =
    (tt, elim (cases_lt low n) [ inl m ↦ absurd (false≢true (some low (omega arith) m)) | inr m ↦ omega arith ])
row_from low n (p ∷ ps) a l some none =
    let first : p.offset < n =
    none p.offset (subst IsSome (sym (known_here p ps p.offset (omega arith) (omega arith))) refl) in
    let last : end_of_fragment p ≤ n =
    let m : p.offset + length p.bytes - 1 < n =
    none (p.offset + length p.bytes - 1)
    (subst IsSome (sym (known_here p ps (p.offset + length p.bytes - 1) (omega arith) (omega arith))) refl) in
    omega arith in
    let at_low : p.offset ≡ low = elim (known_place p low) [
      | below b ↦ absurd (false≢true
          (subst IsSome (known_below p ps low b ∙ nothing_below (end_of_fragment p) ps low a.2 (omega arith))
          (some low (omega arith) (omega arith))))
      | within b c ↦ omega arith
      | past b ↦ omega arith
    ] in
    let r =
    row_from (end_of_fragment p) n ps a.2 last (λ k b m. subst IsSome (known_past p ps k b) (some k (omega arith) m))
    (later none) in
    ((at_low, r.0), r.1)
  where
    later : ((k : ℕ) → IsSome (map_of (p ∷ ps) k) → k < n) → (k : ℕ) → IsSome (map_of ps k) → k < n
    later none k h = elim (cases_lt k (end_of_fragment p)) [
      | inl b ↦ absurd (false≢true (subst IsSome (nothing_below (end_of_fragment p) ps k a.2 b) h))
      | inr b ↦ none k (subst IsSome (sym (known_past p ps k b)) h)
    ]

-- **and only those are**
pub whole_only : (n : ℕ) (ps : List Fragment) → Apart 0 ps → IsWhole (map_of ps) n
    → InRow 0 ps × (reach 0 ps ≡ n) × (last_more ps ≡ false)
whole_only n [] a w = absurd (false≢true (w.filled 0 w.some))
whole_only n (p ∷ ps) a w =
    let r = row_from 0 n (p ∷ ps) a (omega arith) (λ k l m. w.filled k m) w.ended in
    let some = w.some in
    let c = last_is 0 p ps (n - 1) a (omega (arith, r.1)) in
    let none : c.0.piece.more ≡ false =
    subst (λ (o : Option Held). IfSome o (λ held. held.piece.more ≡ false)) c.1 w.last in
    (r.0, r.1, sym c.2 ∙ none)

-- **the joined bytes of contiguous fragments are the map's bytes in order**
pub joined_at : (low : ℕ) (ps : List Fragment) (k : ℕ) (c : Held) → InRow low ps → map_of ps (low + k) ≡ Some c
    → c.byte ≡ get_or (bytes_of ps) k 0
joined_at low [] k c r e = absurd (let f : None ≡ Some c = e in cc)
joined_at low (p ∷ ps) k c r e = elim (cases_lt k (length p.bytes)) [
  | inl l ↦
      let same : Some (own p (low + k)) ≡ Some c = sym (known_here p ps (low + k) (omega arith) (omega arith)) ∙ e in
      let at_k : low + k - p.offset ≡ k = omega arith in
      sym (get_or_append_left p.bytes (bytes_of ps) 0 k l
      ∙ (ap (λ (j : ℕ). get_or p.bytes j 0) (sym at_k) ∙ ap byte_in same))
  | inr l ↦
      let moved : low + k ≡ end_of_fragment p + (k - length p.bytes) = omega arith in
      joined_at (end_of_fragment p) ps (k - length p.bytes) c r.1
      (ap (map_of ps) (sym moved) ∙ (sym (known_past p ps (low + k) (omega arith)) ∙ e))
      ∙ sym (get_or-append_right p.bytes (bytes_of ps) (length p.bytes) k 0 refl l)
]
  where
    byte_in : Option Held → ℕ
    byte_in None = 0
    byte_in (Some c) = c.byte

pub length-joined : (low : ℕ) (ps : List Fragment) → InRow low ps → low + length (bytes_of ps) ≡ reach low ps
length-joined low [] r = omega arith
length-joined low (p ∷ ps) r =
    omega (arith, length-joined (end_of_fragment p) ps r.1, length-append p.bytes (bytes_of ps))

-- **the bytes of a whole datagram are the joined bytes of its fragments**
pub bytes_are : (ps : List Fragment) (n : ℕ) → Apart 0 ps → IsWhole (map_of ps) n
    → (bytes_below (map_of ps) n ≡ bytes_of ps) × (n ≡ length (bytes_of ps))
bytes_are ps n a w =
    let r = whole_only n ps a w in
    let len : n ≡ length (bytes_of ps) = omega (arith, length-joined 0 ps r.0, r.1) in
    let some = w.some in (
      whole_bytes (bytes_of ps) (map_of ps) n (record {
        inside = λ k c e. omega (arith, len, w.ended k (subst IsSome (sym e) refl));
        byte = λ k c e. joined_at 0 ps k c r.0 (ap (map_of ps) (let z : 0 + k ≡ k = omega arith in z) ∙ e);
        ended = λ k c e m. w.filled (length (bytes_of ps) - 1) (omega arith);
      }) w,
      len,
    )

-- ---- the number of bytes of the fragments
-- together they have at most the number of bytes below the end of the last one
pub held_most : (low : ℕ) (ps : List Fragment) → Apart low ps → low + bytes_held ps ≤ reach low ps
held_most low [] a = omega arith
held_most low (p ∷ ps) a = omega (arith, held_most (end_of_fragment p) ps a.2)

-- contiguous fragments have exactly that number, and only those do
row_held : (low : ℕ) (ps : List Fragment) → InRow low ps → low + bytes_held ps ≡ reach low ps
row_held low [] r = omega arith
row_held low (p ∷ ps) r = omega (arith, row_held (end_of_fragment p) ps r.1)

held_row : (low : ℕ) (ps : List Fragment) → Apart low ps → reach low ps ≤ low + bytes_held ps → InRow low ps
held_row low [] a l = tt
held_row low (p ∷ ps) a l =
    (omega (arith, held_most (end_of_fragment p) ps a.2), held_row (end_of_fragment p) ps a.2 (omega arith))

last_at : (i : ℕ) (ps : List Fragment) → i + 1 ≡ length ps → last_more ps ≡ (fragment_at ps i).more
last_at i [] e = absurd (omega arith)
last_at zero (p ∷ []) e = refl
last_at (suc i) (p ∷ []) e = absurd (omega arith)
last_at zero (p ∷ q ∷ ps) e = absurd (omega arith)
last_at (suc i) (p ∷ q ∷ ps) e = last_at i (q ∷ ps) (omega arith)

-- the last fragment has more after it
pub open_stops : (ps : List Fragment) (i : ℕ) → Apart 0 ps → i + 1 ≡ length ps → (fragment_at ps i).more ≡ true
    → (n : ℕ) → ¬ IsWhole (map_of ps) n
open_stops ps i a l m n w =
    let r = whole_only n ps a w in
    false≢true (sym r.2 ∙ (last_at i ps l ∙ m))

-- some bytes are missing
pub gap_stops : (ps : List Fragment) → Apart 0 ps → bytes_held ps < reach 0 ps → (n : ℕ) → ¬ IsWhole (map_of ps) n
gap_stops ps a l n w =
    let r = whole_only n ps a w in
    absurd (omega (arith, row_held 0 ps r.0))

-- **no byte is missing**
pub whole_held : (ps : List Fragment) (i : ℕ) → Apart 0 ps → i + 1 ≡ length ps → (fragment_at ps i).more ≡ false
    → reach 0 ps ≤ bytes_held ps → IsWhole (map_of ps) (bytes_held ps)
whole_held ps i a l m most =
    whole_from ps (bytes_held ps) a (held_row 0 ps a (omega arith)) (last_at i ps l ∙ m)
    (omega (arith, held_most 0 ps a))

reach_within : (low : ℕ) (qs : List Fragment) → low ≤ 65515 → AllEnd 65515 qs → reach low qs ≤ 65515
reach_within low [] l s = l
reach_within low (q ∷ qs) l s = reach_within (end_of_fragment q) qs s.0 s.1

-- all fragments end within the limit
pub ends_within : (ps : List Fragment) → AllEnd 65515 ps → reach 0 ps ≤ 65515
ends_within ps small = reach_within 0 ps (omega arith) small

pub held_within : (ps : List Fragment) → Apart 0 ps → AllEnd 65515 ps → bytes_held ps ≤ 65515
held_within ps a small = omega (arith, held_most 0 ps a, ends_within ps small)

-- a whole datagram ends within the limit
pub whole_most : (ps : List Fragment) (n : ℕ) → Apart 0 ps → AllEnd 65515 ps → IsWhole (map_of ps) n → n ≤ 65515
whole_most ps n a small w = omega (arith, (whole_only n ps a w).1, ends_within ps small)

-- ---- after an insertion
reach_join : (low : ℕ) (xs ys : List Fragment) → reach low (xs ++ ys) ≡ reach (reach low xs) ys
reach_join low [] ys = refl
reach_join low (p ∷ xs) ys = reach_join (end_of_fragment p) xs ys

-- the rest of the fragments reaches at least to the end of all of them
reach_left : (low e x : ℕ) (ps : List Fragment) → low ≤ x → e ≤ x → reach low ps ≤ reach x (left_from e ps)
reach_left low e x [] l m = l
reach_left low e x (p ∷ ps) l m = elim (left_after e p ps) [
  | left_whole h is ↦ omega (arith, ap (reach x) is)
  | left_none h is ↦ omega (arith, ap (reach x) is, reach_left (end_of_fragment p) e x ps (omega arith) m)
  | left_cut h n is ↦ omega (
    arith,
    ap (reach x) is,
    ap (λ (k : ℕ). reach k ps) (end_trimmed (e - p.offset) p (omega arith)),
  )
]

pub reach_inserted : (n : ℕ) (f : Fragment) (xs ys : List Fragment) → n ≡ reach 0 xs - f.offset → n < length f.bytes
    → reach 0 (xs ++ ys) ≤ reach 0 (xs ++ trimmed n f ∷ left_from (end_of_fragment f) ys)
reach_inserted n f xs ys is some =
    let end : end_of_fragment (trimmed n f) ≡ end_of_fragment f = end_trimmed n f (omega arith) in
    omega (
      arith,
      reach_join 0 xs ys,
      reach_join 0 xs (trimmed n f ∷ left_from (end_of_fragment f) ys),
      reach_left (reach 0 xs) (end_of_fragment f) (end_of_fragment (trimmed n f)) ys (omega arith) (omega arith),
    )

-- the last fragment of a list
pub last_here : (xs : List Fragment) (f : Fragment) (i : ℕ) → i ≡ length xs → fragment_at (xs ++ f ∷ []) i ≡ f
last_here [] f zero e = refl
last_here [] f (suc i) e = absurd (omega arith)
last_here (x ∷ xs) f zero e = absurd (omega arith)
last_here (x ∷ xs) f (suc i) e = last_here xs f i (omega arith)
