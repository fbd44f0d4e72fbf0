-- The weight of a chain after each operation, in the terms of the flat machine.
use Rattle.std.proofs.Common.{◌≡◌, ℕ, ◌+◌, ◌-◌, ◌<◌, ◌≤◌, min, max, Bool, List, [], ◌∷◌, length, map, Option, refl, sym, ap, ◌∙◌, arith, inl, inr, take}
use Rattle.std.specs.Prelude.{◌⊎◌, filter_map}
use Rattle.std.specs.List.{AllByRecursion, cons_option}
use Rattle.std.proofs.lemmas.Bool.{cases_lt, lt-ltb, le-ltb, cond-true, cond-false, ne_eqb}
use Rattle.std.proofs.lemmas.List.{length-map, take_all}
use Rattle.mbuf_chain.specs.Chain.{Entry}
use Rattle.flat_model.specs.Amounts.Layout as flat
use Rattle.flat_model.specs.Amounts.Layout.{weight_of, entries_met, meets_from}
use Rattle.chain_ops.specs.Rooms.{room_low}
use Rattle.chain_ops.specs.Copies.{Position, position_of, copied_from, copied, copied_all}
use Rattle.chain_ops.specs.Weights.{layout_entries}
use Rattle.chain_ops.proofs.Lists.{position-stays, position-passes, copied_none}

abbrev clusters : List flat.LayoutEntry → List (Option ℕ)
clusters xs = map (λ (x : flat.LayoutEntry). x.cluster) xs

bag_is : (xs : List flat.LayoutEntry)
    → filter_map (λ (x : flat.LayoutEntry). x.cluster) xs ≡ filter_map (λ (o : Option ℕ). o) (clusters xs)
bag_is [] = refl
bag_is (x ∷ xs) = ap (cons_option x.cluster) (bag_is xs)

-- entries with the same clusters weigh the same
same_weight : (xs ys : List flat.LayoutEntry) → clusters xs ≡ clusters ys → weight_of xs ≡ weight_of ys
same_weight xs ys e =
    let count : length xs ≡ length ys =
    sym (length-map xs (λ (x : flat.LayoutEntry). x.cluster)) ∙ ap (λ (os : List (Option ℕ)). length os) e
    ∙ length-map ys (λ (x : flat.LayoutEntry). x.cluster) in
    let bag : filter_map (λ (x : flat.LayoutEntry). x.cluster) xs
    ≡ filter_map (λ (x : flat.LayoutEntry). x.cluster) ys =
    bag_is xs ∙ ap (filter_map (λ (o : Option ℕ). o)) e ∙ sym (bag_is ys) in
    λ j. record { mbufs = count j; bag = bag j }

abbrev sized : flat.LayoutEntry → ℕ
sized x = x.size

-- an entry that shares a byte with a range, and one that doesn't
met : (x : flat.LayoutEntry) (xs : List flat.LayoutEntry) (at a b : ℕ) → max at a < min (at + x.size) b
    → meets_from sized at (x ∷ xs) a b ≡ x ∷ meets_from sized (at + x.size) xs a b
unfolding meets_from
met x xs at a b h = cond-true {A = List flat.LayoutEntry} _ _ _ (lt-ltb (max at a) (min (at + x.size) b) h)

missed : (x : flat.LayoutEntry) (xs : List flat.LayoutEntry) (at a b : ℕ) → min (at + x.size) b ≤ max at a
    → meets_from sized at (x ∷ xs) a b ≡ meets_from sized (at + x.size) xs a b
unfolding meets_from
missed x xs at a b h = cond-false {A = List flat.LayoutEntry} _ _ _ (le-ltb (max at a) (min (at + x.size) b) h)

met_none : (at a b : ℕ) → meets_from sized at [] a b ≡ []
unfolding meets_from
met_none at a b = refl

-- the copies after the first
later : (es : List Entry) (at a b : ℕ) → AllByRecursion (λ (e : Entry). 0 < length e.bytes) es → a ≤ at
    → clusters (meets_from sized at (layout_entries es) a b) ≡ clusters (layout_entries (copied_from 20 es 0 (b - at)))
later [] at a b some h = ap clusters (met_none at a b)
later (e ∷ es) at a b some h = go (cases_lt at b) (later es (at + length e.bytes) a b some.1 (omega arith))
  where
    go : (at < b) ⊎ (b ≤ at) → clusters (meets_from sized (at + length e.bytes) (layout_entries es) a b)
        ≡ clusters (layout_entries (copied_from 20 es 0 (b - (at + length e.bytes))))
        → clusters (meets_from sized at (layout_entries (e ∷ es)) a b)
        ≡ clusters (layout_entries (copied_from 20 (e ∷ es) 0 (b - at)))
    go (inl l) ih =
        let p : 0 < length e.bytes = some.0 in
        let left : b - (at + length e.bytes) ≡ b - at - (length e.bytes - 0) = omega arith in
        ap clusters
        (met (record { size = length e.bytes; cluster = e.cluster }) (layout_entries es) at a b (omega arith))
        ∙ ap (λ (os : List (Option ℕ)). e.cluster ∷ os)
        (ih ∙ ap (λ (n : ℕ). clusters (layout_entries (copied_from 20 es 0 n))) left)
        ∙ ap (λ (fs : List Entry). clusters (layout_entries fs))
        (sym (cond-false {A = List Entry} _ _ _ (ne_eqb (b - at) 0 (λ z. absurd (omega arith)))))
    go (inr l) ih =
        let none : b - (at + length e.bytes) ≡ 0 = omega arith in
        let none' : 0 ≡ b - at = omega arith in
        ap clusters (missed (record { size = length e.bytes; cluster = e.cluster }) (layout_entries es) at a b
        (omega arith))
        ∙ ih ∙ ap (λ (n : ℕ). clusters (layout_entries (copied_from 20 es 0 n))) none
        ∙ ap (λ (fs : List Entry). clusters (layout_entries fs)) (copied_none 20 es 0)
        ∙ ap (λ (n : ℕ). clusters (layout_entries (copied_from 20 (e ∷ es) 0 n))) none'

-- the copies of the entries from the position of a byte on
from_position : (room : ℕ) (es : List Entry) (at a b off len : ℕ)
    → AllByRecursion (λ (e : Entry). 0 < length e.bytes) es → 0 < len → a ≡ at + off → b ≡ a + len
    → clusters (meets_from sized at (layout_entries es) a b)
    ≡ clusters (layout_entries (copied_from room (position_of es off).entries (position_of es off).skip len))
from_position room [] at a b off len some l ea eb = ap clusters (met_none at a b)
from_position room (e ∷ es) at a b off len some l ea eb =
    go (cases_lt 0 off) (cases_lt off (length e.bytes))
    (λ h. from_position room es (at + length e.bytes) a b (off - length e.bytes) len some.1 l (omega arith) eb)
  where
    stays : (off ≡ 0) ⊎ (off < length e.bytes) → off < length e.bytes
        → clusters (meets_from sized at (layout_entries (e ∷ es)) a b)
        ≡ clusters (layout_entries (copied_from room (position_of (e ∷ es) off).entries (position_of (e ∷ es) off).skip
        len))
    stays h inside =
        let left : b - (at + length e.bytes) ≡ len - (length e.bytes - off) = omega arith in
        ap clusters
        (met (record { size = length e.bytes; cluster = e.cluster }) (layout_entries es) at a b (omega arith))
        ∙ ap (λ (os : List (Option ℕ)). e.cluster ∷ os)
        (later es (at + length e.bytes) a b some.1 (omega arith)
        ∙ ap (λ (n : ℕ). clusters (layout_entries (copied_from 20 es 0 n))) left)
        ∙ ap (λ (fs : List Entry). clusters (layout_entries fs))
        (sym (cond-false {A = List Entry} _ _ _ (ne_eqb len 0 (λ z. absurd (omega arith)))))
        ∙ ap (λ (s : Position). clusters (layout_entries (copied_from room s.entries s.skip len)))
        (sym (position-stays e es off h))

    go : (0 < off) ⊎ (off ≤ 0) → (off < length e.bytes) ⊎ (length e.bytes ≤ off)
        → (length e.bytes ≤ off → clusters (meets_from sized (at + length e.bytes) (layout_entries es) a b)
        ≡ clusters (layout_entries (copied_from room (position_of es (off - length e.bytes)).entries
        (position_of es (off - length e.bytes)).skip len)))
        → clusters (meets_from sized at (layout_entries (e ∷ es)) a b)
        ≡ clusters (layout_entries (copied_from room (position_of (e ∷ es) off).entries (position_of (e ∷ es) off).skip
        len))
    go (inr z) _ ih = let p : 0 < length e.bytes = some.0 in stays (inl (omega arith)) (omega arith)
    go (inl p) (inl h) ih = stays (inr h) h
    go (inl p) (inr h) ih =
        ap clusters (missed (record { size = length e.bytes; cluster = e.cluster }) (layout_entries es) at a b
        (omega arith))
        ∙ ih h
        ∙ ap (λ (s : Position). clusters (layout_entries (copied_from room s.entries s.skip len)))
        (sym (position-passes e es off p h))

-- the weight of the copy of a range is that of the entries that share a byte with it, if none is empty
pub copied_weight : (header : Bool) (es : List Entry) (off len : ℕ)
    → AllByRecursion (λ (e : Entry). 0 < length e.bytes) es → 0 < len
    → weight_of (layout_entries (copied header es off len)) ≡ weight_of
    (entries_met (layout_entries es) off (off + len))
copied_weight header es off len some l =
    same_weight _ _ (sym (from_position (room_low header) es 0 off (off + len) off len some l (omega arith) refl))

-- a copy of all entries has the layout of the original
pub copied_all-placed : (room : ℕ) (es : List Entry) → layout_entries (copied_all room es) ≡ layout_entries es
copied_all-placed room [] = refl
copied_all-placed room (e ∷ es) =
    let size : length (take (length e.bytes) e.bytes) ≡ length e.bytes =
    ap (λ (xs : List ℕ). length xs) (take_all (length e.bytes) e.bytes (omega arith)) in
    λ j. let x : flat.LayoutEntry = record { size = size j; cluster = e.cluster } in x ∷ copied_all-placed 20 es j
