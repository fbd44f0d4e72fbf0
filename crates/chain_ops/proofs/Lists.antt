-- Laws of the definitions, on lists of entries only.
use Rattle.std.proofs.Common.{◌≡◌, ℕ, ◌+◌, ◌-◌, ◌<◌, ◌≤◌, min, Bool, List, [], ◌∷◌, ◌++◌, length, take, drop, refl, sym, ap, ◌∙◌, subst, arith, inl, inr, append_assoc}
use Rattle.std.specs.Prelude.{◌⊎◌, slice_set}
use Rattle.std.proofs.lemmas.Bool.{cond-true, cond-false, and_from, and_left, and_right, lt-ltb, le-ltb, le-leb, lt-leb, ne_eqb, cases_lt}
use Rattle.std.proofs.lemmas.List.{drop_more, drop_all, take_more_set, drop-set-lt, length-append, length-drop, take-append-drop}
use Rattle.mbuf_chain.specs.declared.place.Place.{Place}
use Rattle.mbuf_chain.specs.Chain.{Entry, ChainView, entry_of, no_entry, flat_bytes, IsPlace}
use Rattle.chain_ops.specs.Rooms.{room_low}
use Rattle.chain_ops.specs.declared.cursor.Cursor.{Cursor}
use Rattle.chain_ops.specs.Cursors.{IsCursor}
use Rattle.chain_ops.specs.Copies.{Position, position_of, copied_entry, copied_from, copied, copied_all}

-- ---- a walk over the entries
-- the entry at a place, and those after it
pub at_entry : (v : ChainView) (at : Place) → IsPlace v at
    → drop at.index v.entries ≡ entry_of v at.index ∷ drop (at.index + 1) v.entries
at_entry v at p = drop_more v.entries at.index no_entry p.within

pub flat_at : (v : ChainView) (at : Place) → IsPlace v at
    → length (flat_bytes (drop at.index v.entries))
    ≡ length (entry_of v at.index).bytes + length (flat_bytes (drop (at.index + 1) v.entries))
flat_at v at p =
    ap (λ (es : List Entry). length (flat_bytes es)) (at_entry v at p)
    ∙ length-append (entry_of v at.index).bytes (flat_bytes (drop (at.index + 1) v.entries))

-- no entry follows the last one
pub none_after : (es : List Entry) (i : ℕ) → i + 1 ≡ length es → drop (i + 1) es ≡ []
none_after es i e = drop_all (i + 1) es (omega arith)

pub flat_after : (es : List Entry) (i : ℕ) → i + 1 ≡ length es → length (flat_bytes (drop (i + 1) es)) ≡ 0
flat_after es i e = ap (λ (xs : List Entry). length (flat_bytes xs)) (none_after es i e)

-- if bytes follow those of an entry, another entry follows it
pub another_follows : (v : ChainView) (at : Place) → IsPlace v at
    → length (entry_of v at.index).bytes < length (flat_bytes (drop at.index v.entries))
    → at.index + 1 < length v.entries
another_follows v at p more = go (cases_lt (at.index + 1) (length v.entries))
  where
    go : (at.index + 1 < length v.entries) ⊎ (length v.entries ≤ at.index + 1) → at.index + 1 < length v.entries
    go (inl lt) = lt
    go (inr le) =
        absurd (omega (arith, more, flat_at v at p, flat_after v.entries at.index (omega (arith, le, p.within))))

-- ---- the position of a byte
pub position-stays : (e : Entry) (es : List Entry) (off : ℕ) → (off ≡ 0) ⊎ (off < length e.bytes)
    → position_of (e ∷ es) off ≡ record { entries = e ∷ es; skip = off }
position-stays e es off (inl h) = cond-false {A = Position} _ _ _ (and_left _ _ (le-ltb 0 off (omega arith)))
position-stays e es off (inr h) = cond-false {A = Position} _ _ _ (and_right _ _ (lt-leb (length e.bytes) off h))

pub position-passes : (e : Entry) (es : List Entry) (off : ℕ) → 0 < off → length e.bytes ≤ off
    → position_of (e ∷ es) off ≡ position_of es (off - length e.bytes)
position-passes e es off p h =
    cond-true {A = Position} _ _ _ (and_from _ _ (lt-ltb 0 off p) (le-leb (length e.bytes) off h))

-- the position of a later byte
pub position_on : (es : List Entry) (off by : ℕ)
    → position_of es (off + by) ≡ position_of (position_of es off).entries ((position_of es off).skip + by)
position_on [] off by = refl
position_on (e ∷ es) off by =
    go (cases_lt 0 off) (cases_lt off (length e.bytes)) (position_on es (off - length e.bytes) by)
  where
    stays : (off ≡ 0) ⊎ (off < length e.bytes)
        → position_of (e ∷ es) (off + by)
        ≡ position_of (position_of (e ∷ es) off).entries ((position_of (e ∷ es) off).skip + by)
    stays h = ap (λ (s : Position). position_of s.entries (s.skip + by)) (sym (position-stays e es off h))

    further : (o : ℕ) → o ≡ off - length e.bytes
        → position_of es (o + by) ≡ position_of (position_of es o).entries ((position_of es o).skip + by) → 0 < off
        → length e.bytes ≤ off → position_of (e ∷ es) (off + by)
        ≡ position_of (position_of (e ∷ es) off).entries ((position_of (e ∷ es) off).skip + by)
    further o is ih p h =
        let n : off + by - length e.bytes ≡ o + by = omega (arith, is) in
        position-passes e es (off + by) (omega arith) (omega arith) ∙ ap (position_of es) n ∙ ih
        ∙ ap (λ (k : ℕ). position_of (position_of es k).entries ((position_of es k).skip + by)) is
        ∙ ap (λ (s : Position). position_of s.entries (s.skip + by)) (sym (position-passes e es off p h))

    go : (0 < off) ⊎ (off ≤ 0) → (off < length e.bytes) ⊎ (length e.bytes ≤ off)
        → position_of es (off - length e.bytes + by)
        ≡ position_of (position_of es (off - length e.bytes)).entries
        ((position_of es (off - length e.bytes)).skip + by)
        → position_of (e ∷ es) (off + by)
        ≡ position_of (position_of (e ∷ es) off).entries ((position_of (e ∷ es) off).skip + by)
    go (inr z) b ih = stays (inl (omega arith))
    go (inl p) (inl l) ih = stays (inr l)
    go (inl p) (inr h) ih = further (off - length e.bytes) refl ih p h

pub position_here : (v : ChainView) (at : Place) (off : ℕ) → IsPlace v at
    → (off ≡ 0) ⊎ (off < length (entry_of v at.index).bytes)
    → position_of (drop at.index v.entries) off ≡ record { entries = drop at.index v.entries; skip = off }
position_here v at off p h =
    ap (λ (es : List Entry). position_of es off) (at_entry v at p)
    ∙ position-stays (entry_of v at.index) (drop (at.index + 1) v.entries) off h
    ∙ ap (λ (es : List Entry). record { entries = es; skip = off }) (sym (at_entry v at p))

-- ---- cursors
pub flat-append : (es fs : List Entry) → flat_bytes (es ++ fs) ≡ flat_bytes es ++ flat_bytes fs
flat-append [] fs = refl
flat-append (e ∷ es) fs =
    ap (λ (xs : List ℕ). e.bytes ++ xs) (flat-append es fs) ∙ sym (append_assoc e.bytes (flat_bytes es) (flat_bytes fs))

-- the bytes from the byte's entry on
position_left : (es : List Entry) (off : ℕ)
    → off + length (flat_bytes (position_of es off).entries) ≡ (position_of es off).skip + length (flat_bytes es)
position_left [] off = refl
position_left (e ∷ es) off =
    go (cases_lt 0 off) (cases_lt off (length e.bytes)) (position_left es (off - length e.bytes))
  where
    stays : (off ≡ 0) ⊎ (off < length e.bytes)
        → off + length (flat_bytes (position_of (e ∷ es) off).entries)
        ≡ (position_of (e ∷ es) off).skip + length (flat_bytes (e ∷ es))
    stays h =
        subst (λ (s : Position). off + length (flat_bytes s.entries) ≡ s.skip + length (flat_bytes (e ∷ es)))
        (sym (position-stays e es off h)) refl

    go : (0 < off) ⊎ (off ≤ 0) → (off < length e.bytes) ⊎ (length e.bytes ≤ off)
        → off - length e.bytes + length (flat_bytes (position_of es (off - length e.bytes)).entries)
        ≡ (position_of es (off - length e.bytes)).skip + length (flat_bytes es)
        → off + length (flat_bytes (position_of (e ∷ es) off).entries)
        ≡ (position_of (e ∷ es) off).skip + length (flat_bytes (e ∷ es))
    go (inr z) b ih = stays (inl (omega arith))
    go (inl p) (inl l) ih = stays (inr l)
    go (inl p) (inr h) ih =
        subst (λ (s : Position). off + length (flat_bytes s.entries) ≡ s.skip + length (flat_bytes (e ∷ es)))
        (sym (position-passes e es off p h))
        (omega (arith, ih, length-append e.bytes (flat_bytes es)))

-- the byte is in the entry at its position, or is the chain's first
position_inside : (es : List Entry) (off : ℕ) (x : Entry) (xs : List Entry) → (position_of es off).entries ≡ x ∷ xs
    → ((position_of es off).skip ≡ 0) ⊎ ((position_of es off).skip < length x.bytes)
position_inside [] off x xs is = inl (cc)
position_inside (e ∷ es) off x xs is =
    go (cases_lt 0 off) (cases_lt off (length e.bytes)) (position_inside es (off - length e.bytes) x xs)
  where
    goal : Position → Type 0
    goal s = (s.skip ≡ 0) ⊎ (s.skip < length x.bytes)

    first : (off ≡ 0) ⊎ (off < length e.bytes) → e ≡ x
    first h = let all : e ∷ es ≡ x ∷ xs = ap (λ (s : Position). s.entries) (sym (position-stays e es off h)) ∙ is in cc

    go : (0 < off) ⊎ (off ≤ 0) → (off < length e.bytes) ⊎ (length e.bytes ≤ off)
        → ((position_of es (off - length e.bytes)).entries ≡ x ∷ xs
        → ((position_of es (off - length e.bytes)).skip ≡ 0)
        ⊎ ((position_of es (off - length e.bytes)).skip < length x.bytes))
        → ((position_of (e ∷ es) off).skip ≡ 0) ⊎ ((position_of (e ∷ es) off).skip < length x.bytes)
    go (inr z) b ih = inl (ap (λ (s : Position). s.skip) (position-stays e es off (inl (omega arith))) ∙ (omega arith))
    go (inl p) (inl l) ih =
        inr (omega (
          arith,
          ap (λ (s : Position). s.skip) (position-stays e es off (inr l)),
          ap (λ (y : Entry). length y.bytes) (first (inr l)),
        ))
    go (inl p) (inr h) ih =
        subst (λ (s : Position). (s.skip ≡ 0) ⊎ (s.skip < length x.bytes)) (sym (position-passes e es off p h))
        (ih (ap (λ (s : Position). s.entries) (sym (position-passes e es off p h)) ∙ is))

position-zero : (es : List Entry) → position_of es 0 ≡ record { entries = es; skip = 0 }
position-zero [] = refl
position-zero (e ∷ es) = position-stays e es 0 (inl refl)

pub cursor_left : (v : ChainView) (k : Cursor) → IsCursor v k
    → k.off + length (flat_bytes (drop k.place.index v.entries)) ≡ k.skip + length (flat_bytes v.entries)
cursor_left v k is =
    subst (λ (s : Position). k.off + length (flat_bytes s.entries) ≡ s.skip + length (flat_bytes v.entries)) is.position
    (position_left v.entries k.off)

pub cursor_inside : (v : ChainView) (k : Cursor) → IsCursor v k
    → (k.skip ≡ 0) ⊎ (k.skip < length (entry_of v k.place.index).bytes)
cursor_inside v k is =
    subst (λ (n : ℕ). (n ≡ 0) ⊎ (n < length (entry_of v k.place.index).bytes))
    (ap (λ (s : Position). s.skip) is.position)
    (position_inside v.entries k.off _ _ (ap (λ (s : Position). s.entries) is.position ∙ at_entry v k.place is.place))

-- a cursor's offset in its mbuf is at most its offset in the chain
pub cursor_most : (v : ChainView) (k : Cursor) → IsCursor v k → k.skip ≤ k.off
cursor_most v k is =
    let es : List Entry = v.entries in
    let i : ℕ = k.place.index in
    omega (
      arith,
      cursor_left v k is,
      ap (λ (xs : List Entry). length (flat_bytes xs)) (take-append-drop i es),
      ap (λ (xs : List ℕ). length xs) (flat-append (take i es) (drop i es)),
      length-append (flat_bytes (take i es)) (flat_bytes (drop i es)),
    )

-- a cursor at 0 is at the first mbuf
pub cursor_first : (v : ChainView) (k : Cursor) → IsCursor v k → k.off ≡ 0 → k.place.index ≡ 0
cursor_first v k is z =
    let here : drop k.place.index v.entries ≡ v.entries =
    ap (λ (s : Position). s.entries) (sym is.position ∙ ap (position_of v.entries) z ∙ position-zero v.entries) in
    omega (arith, ap (λ (es : List Entry). length es) here, length-drop k.place.index v.entries, is.place.within)

-- ---- copies
pub copied_none : (room : ℕ) (es : List Entry) (skip : ℕ) → copied_from room es skip 0 ≡ []
copied_none room [] skip = refl
copied_none room (e ∷ es) skip = refl

pub copied_one : (room : ℕ) (v : ChainView) (at : Place) (skip len : ℕ) → IsPlace v at → 0 < len
    → copied_from room (drop at.index v.entries) skip len
    ≡ copied_entry room (entry_of v at.index) skip (min len (length (entry_of v at.index).bytes - skip))
    ∷ copied_from 20 (drop (at.index + 1) v.entries) 0 (len - (length (entry_of v at.index).bytes - skip))
copied_one room v at skip len p some =
    ap (λ (es : List Entry). copied_from room es skip len) (at_entry v at p)
    ∙ cond-false {A = List Entry} _ _ _ (ne_eqb len 0 (λ e. absurd (omega arith)))

-- ---- entries changed one after another
pub walk_set : (F : List Entry → List Entry) (es : List Entry) (i : ℕ) (e : Entry) → i < length es
    → take (i + 1) (slice_set es i e) ++ F (drop (i + 1) (slice_set es i e)) ≡ take i es ++ (e ∷ F (drop (i + 1) es))
walk_set F es i e lt =
    (λ j. take_more_set es i e lt j ++ F (drop-set-lt (i + 1) es i e (omega arith) j))
    ∙ append_assoc (take i es) (e ∷ []) (F (drop (i + 1) es))

pub copied_some : (room : ℕ) (v : ChainView) (at : Place) (skip len : ℕ) → IsPlace v at → 0 < len
    → 0 < length (copied_from room (drop at.index v.entries) skip len)
copied_some room v at skip len p some =
    omega (arith, ap (λ (es : List Entry). length es) (copied_one room v at skip len p some))

-- after the first entry was copied
pub copied_start : (v : ChainView) (at : Place) (header : Bool) (off len skip first xlen : ℕ) (done : List Entry)
    → IsPlace v at
    → position_of v.entries off ≡ record { entries = drop at.index v.entries; skip = skip } → 0 < len
    → xlen ≡ length (entry_of v at.index).bytes → first ≡ min (xlen - skip) len
    → done ≡ copied_entry (room_low header) (entry_of v at.index) skip first ∷ []
    → done ++ copied_from 20 (drop (at.index + 1) v.entries) 0 (len - first) ≡ copied header v.entries off len
copied_start v at header off len skip first xlen done place found some is cut made =
    let e : Entry = entry_of v at.index in
    let n : first ≡ min len (length e.bytes - skip) = omega arith in
    let less : len - first ≡ len - (length e.bytes - skip) = omega arith in
    (λ j. made j ++ copied_from 20 (drop (at.index + 1) v.entries) 0 (less j))
    ∙ ap (λ (k : ℕ). copied_entry (room_low header) e skip k
    ∷ copied_from 20 (drop (at.index + 1) v.entries) 0 (len - (length e.bytes - skip))) n
    ∙ sym (copied_one (room_low header) v at skip len place some)
    ∙ ap (λ (s : Position). copied_from (room_low header) s.entries s.skip len) (sym found)

-- after another entry was copied
pub copied_step : (v : ChainView) (at : Place) (i left n xlen : ℕ) (done now : List Entry) → IsPlace v at
    → at.index ≡ i + 1 → 0 < left → xlen ≡ length (entry_of v at.index).bytes
    → n ≡ min xlen left → now ≡ done ++ (copied_entry 20 (entry_of v at.index) 0 n ∷ [])
    → now ++ copied_from 20 (drop (at.index + 1) v.entries) 0 (left - n)
    ≡ done ++ copied_from 20 (drop (i + 1) v.entries) 0 left
copied_step v at i left n xlen done now place next some is cut made =
    let e : Entry = entry_of v at.index in
    let rest : List Entry = drop (at.index + 1) v.entries in
    let n' : n ≡ min left (length e.bytes - 0) = omega arith in
    let less : left - n ≡ left - (length e.bytes - 0) = omega arith in
    (λ j. made j ++ copied_from 20 rest 0 (less j))
    ∙ append_assoc done (copied_entry 20 e 0 n ∷ []) (copied_from 20 rest 0 (left - (length e.bytes - 0)))
    ∙ ap (λ (k : ℕ). done ++ (copied_entry 20 e 0 k ∷ copied_from 20 rest 0 (left - (length e.bytes - 0)))) n'
    ∙ ap (λ (es : List Entry). done ++ es) (sym (copied_one 20 v at 0 left place some))
    ∙ ap (λ (k : ℕ). done ++ copied_from 20 (drop k v.entries) 0 left) next

-- the same for whole chains
pub all_start : (v : ChainView) (at : Place) (header : Bool) (xlen : ℕ) (done : List Entry) → IsPlace v at
    → at.index ≡ 0 → xlen ≡ length (entry_of v at.index).bytes
    → done ≡ copied_entry (room_low header) (entry_of v at.index) 0 xlen ∷ []
    → done ++ copied_all 20 (drop (at.index + 1) v.entries) ≡ copied_all (room_low header) v.entries
all_start v at header xlen done place first is made =
    let e : Entry = entry_of v at.index in
    let whole : drop at.index v.entries ≡ v.entries = ap (λ (i : ℕ). drop i v.entries) first in
    (λ j. made j ++ copied_all 20 (drop (at.index + 1) v.entries))
    ∙ ap (λ (k : ℕ). copied_entry (room_low header) e 0 k ∷ copied_all 20 (drop (at.index + 1) v.entries)) is
    ∙ ap (copied_all (room_low header)) (sym (at_entry v at place) ∙ whole)

pub all_step : (v : ChainView) (at : Place) (i xlen : ℕ) (done now : List Entry) → IsPlace v at → at.index ≡ i + 1
    → xlen ≡ length (entry_of v at.index).bytes
    → now ≡ done ++ (copied_entry 20 (entry_of v at.index) 0 xlen ∷ [])
    → now ++ copied_all 20 (drop (at.index + 1) v.entries) ≡ done ++ copied_all 20 (drop (i + 1) v.entries)
all_step v at i xlen done now place next is made =
    let e : Entry = entry_of v at.index in
    let rest : List Entry = drop (at.index + 1) v.entries in
    (λ j. made j ++ copied_all 20 rest)
    ∙ append_assoc done (copied_entry 20 e 0 xlen ∷ []) (copied_all 20 rest)
    ∙ ap (λ (k : ℕ). done ++ (copied_entry 20 e 0 k ∷ copied_all 20 rest)) is
    ∙ ap (λ (es : List Entry). done ++ copied_all 20 es) (sym (at_entry v at place))
    ∙ ap (λ (k : ℕ). done ++ copied_all 20 (drop k v.entries)) next

pub all_some : (v : ChainView) (at : Place) (i : ℕ) → IsPlace v at → at.index ≡ i + 1
    → 0 < length (copied_all 20 (drop (i + 1) v.entries))
all_some v at i place next =
    omega (
      arith,
      ap (λ (es : List Entry). length (copied_all 20 es)) (at_entry v at place),
      ap (λ (k : ℕ). length (copied_all 20 (drop k v.entries))) next,
    )
