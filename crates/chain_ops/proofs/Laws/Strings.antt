-- The bytes of a chain after each operation, as list operations that don't depend on the layout.
use Rattle.std.proofs.Common.{◌≡◌, ℕ, zero, suc, ◌+◌, ◌-◌, ◌<◌, ◌≤◌, min, Bool, true, false, cond, List, [], ◌∷◌, ◌++◌, length, take, drop, refl, sym, ap, ◌∙◌, arith, inl, inr, append_assoc, append-nil}
use Rattle.std.specs.Prelude.{◌⊎◌, ℤ, pos, negsuc, nat_le, is_some, None}
use Rattle.std.proofs.lemmas.Bool.{cases_lt, cond-true, cond-false, eq-eqb, ne_eqb, lt-ltb, le-ltb}
use Rattle.std.proofs.lemmas.List.{length-append, take_all, drop_all, take_rest, take-append-drop, drop-append-le}
use Rattle.mbuf_chain.specs.Chain.{Entry, ChainView, entry_of, no_entry, flat_bytes, string, trailing_space}
use Rattle.mbuf_chain.specs.Steps.{with_back, with_front, narrowed, empty_entry}
use Rattle.mbuf_chain.proofs.Laws.Lists.{take_over, drop_over}
use Rattle.chain_ops.specs.Rooms.{room_low, end_entry}
use Rattle.chain_ops.specs.Copies.{Position, position_of, copied_entry, copied_from, copied, copied_all}
use Rattle.chain_ops.specs.Trims.{without_first, only_first, adjusted, adjusted_bytes}
use Rattle.chain_ops.specs.Joins.{filled_up, cat}
use Rattle.chain_ops.specs.Pulls.{moved, has_room, pulled_len, entries_pulled}
use Rattle.chain_ops.specs.Prepends.{has_front, prepended}
use Rattle.chain_ops.specs.Splits.{rest_of, split_front, split_back}
use Rattle.chain_ops.proofs.Laws.Lists.{take_least, drop-append, piece_copied}
use Rattle.chain_ops.proofs.Lists.{flat-append, position-stays, position-passes, copied_none}
use Rattle.chain_ops.proofs.Joins.{fill-goes, fill-stops, moved-none, moved-goes, moved-part}

pub take_none : (n : ℕ) → take {A = ℕ} n [] ≡ []
take_none zero = refl
take_none (suc n) = refl

pub drop_none : (n : ℕ) → drop {A = ℕ} n [] ≡ []
drop_none zero = refl
drop_none (suc n) = refl

-- a copy of all entries has all bytes
pub copied_all_bytes : (room : ℕ) (es : List Entry) → flat_bytes (copied_all room es) ≡ flat_bytes es
copied_all_bytes room [] = refl
copied_all_bytes room (e ∷ es) = λ j. take_all (length e.bytes) e.bytes (omega arith) j ++ copied_all_bytes 20 es j

-- the copy of a range has the bytes of the range
copied-cons : (room : ℕ) (e : Entry) (es : List Entry) (skip len : ℕ) → 0 < len
    → flat_bytes (copied_from room (e ∷ es) skip len)
    ≡ take (min (length e.bytes - skip) len) (drop skip e.bytes)
    ++ flat_bytes (copied_from 20 es 0 (len - min (length e.bytes - skip) len))
copied-cons room e es skip len some =
    let n : min len (length e.bytes - skip) ≡ min (length e.bytes - skip) len = omega arith in
    let less : len - (length e.bytes - skip) ≡ len - min (length e.bytes - skip) len = omega arith in
    ap flat_bytes (cond-false {A = List Entry} _ _ _ (ne_eqb len 0 (λ z. absurd (omega arith))))
    ∙ (λ j. take (n j) (drop skip e.bytes) ++ flat_bytes (copied_from 20 es 0 (less j)))

from_zero : (room : ℕ) (es : List Entry) (len : ℕ) → flat_bytes (copied_from room es 0 len) ≡ take len (flat_bytes es)
from_zero room [] len = sym (take_none len)
from_zero room (e ∷ es) len = go (cases_lt 0 len) (from_zero 20 es (len - min (length e.bytes - 0) len))
  where
    go : (0 < len) ⊎ (len ≤ 0) → flat_bytes (copied_from 20 es 0 (len - min (length e.bytes - 0) len))
        ≡ take (len - min (length e.bytes - 0) len) (flat_bytes es)
        → flat_bytes (copied_from room (e ∷ es) 0 len) ≡ take len (flat_bytes (e ∷ es))
    go (inl some) ih =
        copied-cons room e es 0 len some ∙ ap (λ (xs : List ℕ). take (min (length e.bytes - 0) len) e.bytes ++ xs) ih
        ∙ sym (piece_copied e.bytes (flat_bytes es) 0 (min (length e.bytes - 0) len) len (omega arith) refl)
    go (inr none) ih =
        let z : len ≡ 0 = omega arith in
        ap (λ (n : ℕ). flat_bytes (copied_from room (e ∷ es) 0 n)) z ∙ ap flat_bytes (copied_none room (e ∷ es) 0)
        ∙ ap (λ (n : ℕ). take n (flat_bytes (e ∷ es))) (sym z)

pub copied_from_bytes : (room : ℕ) (e : Entry) (es : List Entry) (skip len : ℕ) → skip ≤ length e.bytes
    → flat_bytes (copied_from room (e ∷ es) skip len) ≡ take len (drop skip (flat_bytes (e ∷ es)))
copied_from_bytes room e es skip len h = go (cases_lt 0 len)
  where
    go : (0 < len) ⊎ (len ≤ 0) → flat_bytes (copied_from room (e ∷ es) skip len)
        ≡ take len (drop skip (flat_bytes (e ∷ es)))
    go (inl some) =
        copied-cons room e es skip len some
        ∙ ap (λ (xs : List ℕ). take (min (length e.bytes - skip) len) (drop skip e.bytes) ++ xs)
        (from_zero 20 es (len - min (length e.bytes - skip) len))
        ∙ sym (piece_copied e.bytes (flat_bytes es) skip (min (length e.bytes - skip) len) len h refl)
    go (inr none) =
        let z : len ≡ 0 = omega arith in
        ap (λ (n : ℕ). flat_bytes (copied_from room (e ∷ es) skip n)) z ∙ ap flat_bytes (copied_none room (e ∷ es) skip)
        ∙ ap (λ (n : ℕ). take n (drop skip (flat_bytes (e ∷ es)))) (sym z)

pub position_bytes : (room : ℕ) (es : List Entry) (off len : ℕ)
    → flat_bytes (copied_from room (position_of es off).entries (position_of es off).skip len)
    ≡ take len (drop off (flat_bytes es))
position_bytes room [] off len = sym (ap (take len) (drop_none off) ∙ take_none len)
position_bytes room (e ∷ es) off len =
    go (cases_lt 0 off) (cases_lt off (length e.bytes)) (position_bytes room es (off - length e.bytes) len)
  where
    stays : (off ≡ 0) ⊎ (off < length e.bytes) → off ≤ length e.bytes
        → flat_bytes (copied_from room (position_of (e ∷ es) off).entries (position_of (e ∷ es) off).skip len)
        ≡ take len (drop off (flat_bytes (e ∷ es)))
    stays h fits =
        ap (λ (s : Position). flat_bytes (copied_from room s.entries s.skip len)) (position-stays e es off h)
        ∙ copied_from_bytes room e es off len fits

    go : (0 < off) ⊎ (off ≤ 0) → (off < length e.bytes) ⊎ (length e.bytes ≤ off)
        → flat_bytes (copied_from room (position_of es (off - length e.bytes)).entries
        (position_of es (off - length e.bytes)).skip len) ≡ take len (drop (off - length e.bytes) (flat_bytes es))
        → flat_bytes (copied_from room (position_of (e ∷ es) off).entries (position_of (e ∷ es) off).skip len)
        ≡ take len (drop off (flat_bytes (e ∷ es)))
    go (inr z) _ ih = stays (inl (omega arith)) (omega arith)
    go (inl p) (inl l) ih = stays (inr l) (omega arith)
    go (inl p) (inr h) ih =
        ap (λ (s : Position). flat_bytes (copied_from room s.entries s.skip len)) (position-passes e es off p h) ∙ ih
        ∙ ap (take len) (sym (drop_over off e.bytes (flat_bytes es) h))

pub copied_bytes : (header : Bool) (es : List Entry) (off len : ℕ)
    → flat_bytes (copied header es off len) ≡ take len (drop off (flat_bytes es))
copied_bytes header es off len = position_bytes (room_low header) es off len

-- ---- bytes removed from an end
drop_least : (n : ℕ) (xs : List ℕ) → take (length xs - min n (length xs)) (drop (min n (length xs)) xs) ≡ drop n xs
drop_least n xs = take_rest xs (min n (length xs)) ∙ elim (cases_lt n (length xs)) [
  | inl l ↦ let same : min n (length xs) ≡ n = omega arith in ap (λ (k : ℕ). drop k xs) same
  | inr l ↦ drop_all (min n (length xs)) xs (omega arith) ∙ sym (drop_all n xs l)
]

pub without_first_bytes : (n : ℕ) (es : List Entry) → flat_bytes (without_first n es) ≡ drop n (flat_bytes es)
without_first_bytes n [] = sym (drop_none n)
without_first_bytes n (e ∷ es) =
    (λ j. drop_least n e.bytes j ++ without_first_bytes (n - length e.bytes) es j)
    ∙ sym (drop-append n e.bytes (flat_bytes es))

-- keeping n bytes of a chain with at most n bytes changes nothing
pub keep_enough : (n : ℕ) (es : List Entry) → length (flat_bytes es) ≤ n → only_first n es ≡ es
keep_enough n [] le = refl
keep_enough n (e ∷ es) le =
    let both = length-append e.bytes (flat_bytes es) in
    λ j. record {
      bytes = take_all (min n (length e.bytes)) e.bytes (omega (arith, both)) j;
      start = from_start e.start j;
      cluster = e.cluster;
    }
    ∷ keep_enough (n - length e.bytes) es (omega (arith, both)) j
  where
    from_start : (k : ℕ) → k + 0 ≡ k
    from_start k = omega arith

pub only_first_bytes : (n : ℕ) (es : List Entry) → flat_bytes (only_first n es) ≡ take n (flat_bytes es)
only_first_bytes n [] = sym (take_none n)
only_first_bytes n (e ∷ es) =
    let least : min n (length e.bytes) ≡ min (length e.bytes) n = omega arith in
    let here : take (min n (length e.bytes)) e.bytes ≡ take n e.bytes =
    ap (λ (k : ℕ). take k e.bytes) least ∙ sym (take_least n e.bytes) in
    (λ j. here j ++ only_first_bytes (n - length e.bytes) es j) ∙ sym (take_over n e.bytes (flat_bytes es))

pub adjusted_are : (n : ℤ) (es : List Entry) → flat_bytes (adjusted n es) ≡ adjusted_bytes n (flat_bytes es)
adjusted_are (pos n) es = without_first_bytes n es
adjusted_are (negsuc n) es = only_first_bytes (length (flat_bytes es) - suc n) es

-- ---- moving bytes between mbufs leaves the string unchanged
filled_up_bytes : (e : Entry) (fs : List Entry) → flat_bytes (filled_up e fs) ≡ e.bytes ++ flat_bytes fs
filled_up_bytes e [] = refl
filled_up_bytes e (f ∷ fs) =
    go (cases_lt (length f.bytes) (trailing_space e)) (filled_up_bytes (with_back e f.bytes) fs)
  where
    go : (length f.bytes < trailing_space e) ⊎ (trailing_space e ≤ length f.bytes)
        → flat_bytes (filled_up (with_back e f.bytes) fs) ≡ (e.bytes ++ f.bytes) ++ flat_bytes fs
        → flat_bytes (filled_up e (f ∷ fs)) ≡ e.bytes ++ (f.bytes ++ flat_bytes fs)
    go (inl l) ih = ap flat_bytes (fill-goes e f fs l) ∙ ih ∙ append_assoc e.bytes f.bytes (flat_bytes fs)
    go (inr l) ih = ap flat_bytes (fill-stops e f fs l)

pub cat_bytes : (es fs : List Entry) → flat_bytes (cat es fs) ≡ flat_bytes es ++ flat_bytes fs
cat_bytes [] fs = refl
cat_bytes (e ∷ []) fs = filled_up_bytes e fs ∙ ap (λ (xs : List ℕ). xs ++ flat_bytes fs) (sym (append-nil e.bytes))
cat_bytes (e ∷ f ∷ es) fs =
    ap (λ (xs : List ℕ). e.bytes ++ xs) (cat_bytes (f ∷ es) fs)
    ∙ sym (append_assoc e.bytes (flat_bytes (f ∷ es)) (flat_bytes fs))

pub moved_bytes : (n : ℕ) (e : Entry) (fs : List Entry) → flat_bytes (moved n e fs) ≡ e.bytes ++ flat_bytes fs
moved_bytes n e [] = refl
moved_bytes n e (f ∷ fs) =
    go (cases_lt 0 n) (cases_lt n (length f.bytes)) (moved_bytes (n - length f.bytes) (with_back e f.bytes) fs)
  where
    go : (0 < n) ⊎ (n ≤ 0) → (n < length f.bytes) ⊎ (length f.bytes ≤ n)
        → flat_bytes (moved (n - length f.bytes) (with_back e f.bytes) fs) ≡ (e.bytes ++ f.bytes) ++ flat_bytes fs
        → flat_bytes (moved n e (f ∷ fs)) ≡ e.bytes ++ (f.bytes ++ flat_bytes fs)
    go (inr z) b ih = ap flat_bytes (moved-none e (f ∷ fs) n (omega arith))
    go (inl p) (inl l) ih =
        ap flat_bytes (moved-part e f fs n p l)
        ∙ ap (λ (xs : List ℕ). (e.bytes ++ take n f.bytes) ++ (xs ++ flat_bytes fs)) (take_rest f.bytes n)
        ∙ append_assoc e.bytes (take n f.bytes) (drop n f.bytes ++ flat_bytes fs)
        ∙ ap (λ (xs : List ℕ). e.bytes ++ xs)
        (sym (append_assoc (take n f.bytes) (drop n f.bytes) (flat_bytes fs))
        ∙ ap (λ (xs : List ℕ). xs ++ flat_bytes fs) (take-append-drop n f.bytes))
    go (inl p) (inr l) ih = ap flat_bytes (moved-goes e f fs n p l) ∙ ih ∙ append_assoc e.bytes f.bytes (flat_bytes fs)

-- the first entry's bytes, and those of the others
pub first_rest : (v : ChainView) → (entry_of v 0).bytes ++ flat_bytes (drop 1 v.entries) ≡ string v
first_rest v = go v.entries
  where
    go : (es : List Entry) → (Rattle.std.specs.Prelude.slice_index_or es 0 no_entry).bytes ++ flat_bytes (drop 1 es)
        ≡ flat_bytes es
    go [] = refl
    go (e ∷ es) = refl

pub pulled_up_bytes : (v : ChainView) (n : ℕ) → flat_bytes (entries_pulled v n) ≡ string v
pulled_up_bytes v n = go (has_room (entry_of v 0) n)
  where
    go : (b : Bool)
        → flat_bytes (cond b (moved (n - length (entry_of v 0).bytes) (entry_of v 0) (drop 1 v.entries))
        (moved (pulled_len n v.entries) (empty_entry (room_low v.front.header) None) v.entries))
        ≡ string v
    go true = moved_bytes (n - length (entry_of v 0).bytes) (entry_of v 0) (drop 1 v.entries) ∙ first_rest v
    go false = moved_bytes (pulled_len n v.entries) (empty_entry (room_low v.front.header) None) v.entries

pub prepended_bytes : (v : ChainView) (xs : List ℕ) → flat_bytes (prepended v xs) ≡ xs ++ string v
prepended_bytes v xs = go (has_front v (length xs))
  where
    go : (b : Bool) → flat_bytes (cond {A = List Entry} b (with_front (entry_of v 0) xs ∷ drop 1 v.entries)
        (end_entry v.front.header xs ∷ v.entries)) ≡ xs ++ string v
    go true =
        append_assoc xs (entry_of v 0).bytes (flat_bytes (drop 1 v.entries))
        ∙ ap (λ (ys : List ℕ). xs ++ ys) (first_rest v)
    go false = refl

-- ---- a chain cut in two
pub split_front_bytes : (es : List Entry) (off : ℕ) → flat_bytes (split_front es off) ≡ take off (flat_bytes es)
split_front_bytes [] off = sym (take_none off)
split_front_bytes (e ∷ es) off = go (cases_lt (length e.bytes) off) (split_front_bytes es (off - length e.bytes))
  where
    go : (length e.bytes < off) ⊎ (off ≤ length e.bytes)
        → flat_bytes (split_front es (off - length e.bytes)) ≡ take (off - length e.bytes) (flat_bytes es)
        → flat_bytes (split_front (e ∷ es) off) ≡ take off (flat_bytes (e ∷ es))
    go (inl l) ih =
        ap flat_bytes (cond-true {A = List Entry} _ _ _ (lt-ltb (length e.bytes) off l))
        ∙ ap (λ (xs : List ℕ). e.bytes ++ xs) ih
        ∙ ap (λ (xs : List ℕ). xs ++ take (off - length e.bytes) (flat_bytes es))
        (sym (take_all off e.bytes (omega arith))) ∙ sym (take_over off e.bytes (flat_bytes es))
    go (inr l) ih =
        let none : off - length e.bytes ≡ 0 = omega arith in
        ap flat_bytes (cond-false {A = List Entry} _ _ _ (le-ltb (length e.bytes) off l))
        ∙ ap (λ (k : ℕ). take off e.bytes ++ take k (flat_bytes es)) (sym none)
        ∙ sym (take_over off e.bytes (flat_bytes es))

rest_of_bytes : (h : Bool) (e : Entry) (off : ℕ) → off ≤ length e.bytes
    → flat_bytes (rest_of h e off) ≡ drop off e.bytes
rest_of_bytes h e off le = go (cases_lt off (length e.bytes)) h
  where
    rest : ℕ
    rest = length e.bytes - off

    all : take (length e.bytes - off) (drop off e.bytes) ++ [] ≡ drop off e.bytes
    all = append-nil (take (length e.bytes - off) (drop off e.bytes)) ∙ take_rest e.bytes off

    plain : (h t : Bool) → flat_bytes
        (cond h (cond t (end_entry true (drop off e.bytes) ∷ [])
        (empty_entry (room_low true) None ∷ copied_entry 20 e off (length e.bytes - off) ∷ [])) (copied_entry 20 e off
        (length e.bytes - off) ∷ [])) ≡ drop off e.bytes
    plain true true = append-nil (drop off e.bytes)
    plain true false = all
    plain false t = all

    some : (h c t : Bool) → flat_bytes
        (cond c (narrowed e off (length e.bytes - off) ∷ [])
        (cond h (cond t (end_entry true (drop off e.bytes) ∷ [])
        (empty_entry (room_low true) None ∷ copied_entry 20 e off (length e.bytes - off) ∷ [])) (copied_entry 20 e off
        (length e.bytes - off) ∷ []))) ≡ drop off e.bytes
    some h true t = all
    some h false t = plain h t

    none : (h : Bool) → length e.bytes ≤ off
        → flat_bytes (cond {A = List Entry} h (empty_entry (room_low true) None ∷ []) []) ≡ drop off e.bytes
    none true l = sym (drop_all off e.bytes l)
    none false l = sym (drop_all off e.bytes l)

    go : (off < length e.bytes) ⊎ (length e.bytes ≤ off) → (h : Bool) → flat_bytes (rest_of h e off) ≡ drop off e.bytes
    go (inl l) h =
        ap flat_bytes (cond-false {A = List Entry} _ _ _ (ne_eqb (length e.bytes - off) 0 (λ z. absurd (omega arith))))
        ∙ some h (is_some e.cluster) (nat_le (length e.bytes - off) 100)
    go (inr l) h =
        ap flat_bytes (cond-true {A = List Entry} _ _ _ (eq-eqb (length e.bytes - off) 0 (omega arith))) ∙ none h l

pub split_back_bytes : (h : Bool) (es : List Entry) (off : ℕ)
    → flat_bytes (split_back h es off) ≡ drop off (flat_bytes es)
split_back_bytes h [] off = sym (drop_none off)
split_back_bytes h (e ∷ es) off = go (cases_lt (length e.bytes) off) (split_back_bytes h es (off - length e.bytes))
  where
    go : (length e.bytes < off) ⊎ (off ≤ length e.bytes)
        → flat_bytes (split_back h es (off - length e.bytes)) ≡ drop (off - length e.bytes) (flat_bytes es)
        → flat_bytes (split_back h (e ∷ es) off) ≡ drop off (flat_bytes (e ∷ es))
    go (inl l) ih =
        ap flat_bytes (cond-true {A = List Entry} _ _ _ (lt-ltb (length e.bytes) off l)) ∙ ih
        ∙ sym (drop_over off e.bytes (flat_bytes es) (omega arith))
    go (inr l) ih =
        ap flat_bytes (cond-false {A = List Entry} _ _ _ (le-ltb (length e.bytes) off l))
        ∙ flat-append (rest_of h e off) es
        ∙ ap (λ (xs : List ℕ). xs ++ flat_bytes es) (rest_of_bytes h e off l)
        ∙ sym (drop-append-le off e.bytes (flat_bytes es) l)
