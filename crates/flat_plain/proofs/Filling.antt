-- Rooms that are added one after another.
use Rattle.std.proofs.Common.{◌≡◌, ℕ, zero, suc, ◌+◌, ◌-◌, ◌<◌, Bool, true, false, List, [], ◌∷◌, ◌++◌, length, take, drop, get_or, refl, sym, ◌∙◌, ap, arith, cond, ◌⊎◌, inl, inr, min, max}
use Rattle.std.specs.Prelude.{nat_lt, nat_le}
use Rattle.std.proofs.lemmas.Bool.{cond-false, lt-leb}
use Rattle.std.proofs.lemmas.List.{map-append, append_assoc, append-nil, take_all}
use Rattle.flat_model.specs.Amounts.Layout.{filled, next_room, or_empty, size_of, meets_from}
use Rattle.flat_model.specs.Amounts.Layout as Layout
use Rattle.flat_plain.specs.declared.rooms.Room.{Room}
use Rattle.flat_plain.specs.Rooms.{plain_room, rooms_of}

filled_none : (most large small left : ℕ) → (most ≡ 0) ⊎ (left ≡ 0) → filled most large small left ≡ []
unfolding filled
filled_none zero large small left h = refl
filled_none (suc most) large small zero h = refl
filled_none (suc most) large small (suc left) (inl h) = absurd (omega arith)
filled_none (suc most) large small (suc left) (inr h) = absurd (omega arith)

filled_next : (most large small left : ℕ) → 0 < most → 0 < left
    → filled most large small left
    ≡ next_room large small left ∷ filled (most - 1) 2048 108 (left - size_of (next_room large small left))
unfolding filled
filled_next zero large small left m l = absurd (omega arith)
filled_next (suc most) large small zero m l = absurd (omega arith)
filled_next (suc most) large small (suc less) m l =
    let e : suc most - 1 ≡ most = omega arith in
    ap (λ k. next_room large small (suc less)
    ∷ filled k 2048 108 (suc less - size_of (next_room large small (suc less)))) (sym e)

pub fill_none : (rooms : List Room) (most large small left : ℕ) → (most ≡ 0) ⊎ (left ≡ 0)
    → rooms_of rooms ≡ rooms_of rooms ++ filled most large small left
fill_none rooms most large small left h =
    sym (ap (λ xs. rooms_of rooms ++ xs) (filled_none most large small left h) ∙ append-nil (rooms_of rooms))

pub fill_step : (old new after : List Room) (room : Room) (most large small left size : ℕ) → 0 < most → 0 < left
    → plain_room room ≡ next_room large small left → new ≡ old ++ room ∷ []
    → size ≡ size_of (plain_room room) → rooms_of after ≡ rooms_of new ++ filled (most - 1) 2048 108 (left - size)
    → rooms_of after ≡ rooms_of old ++ filled most large small left
fill_step old new after room most large small left size m l is pushed n e =
    e
    ∙ ap (λ xs. rooms_of xs ++ filled (most - 1) 2048 108 (left - size)) pushed
    ∙ ap (λ xs. xs ++ filled (most - 1) 2048 108 (left - size)) (map-append plain_room old (room ∷ []))
    ∙ append_assoc (rooms_of old) (plain_room room ∷ []) (filled (most - 1) 2048 108 (left - size))
    ∙ ap (λ k. rooms_of old ++ plain_room room ∷ filled (most - 1) 2048 108 (left - k)) n
    ∙ ap (λ r. rooms_of old ++ r ∷ filled (most - 1) 2048 108 (left - size_of r)) is
    ∙ ap (λ xs. rooms_of old ++ xs) (sym (filled_next most large small left m l))

-- a layout of some bytes isn't empty
pub or_empty_some : (most large small left : ℕ) → 0 < most → 0 < left
    → or_empty (filled most large small left) ≡ filled most large small left
or_empty_some most large small left m l =
    ap or_empty (filled_next most large small left m l) ∙ sym (filled_next most large small left m l)

pub or_empty_none : (most large small left : ℕ) → (most ≡ 0) ⊎ (left ≡ 0)
    → or_empty (filled most large small left) ≡ Layout.Plain 0 ∷ []
or_empty_none most large small left h = ap or_empty (filled_none most large small left h)

pub meets_next : (room : Room) (rooms : List Room) (at a b : ℕ) (t : Bool)
    → nat_lt (max at a) (min (at + size_of (plain_room room)) b) ≡ t
    → length (meets_from size_of at (rooms_of (room ∷ rooms)) a b)
    ≡ cond t (length (meets_from size_of (at + size_of (plain_room room)) (rooms_of rooms) a b) + 1)
    (length (meets_from size_of (at + size_of (plain_room room)) (rooms_of rooms) a b))
unfolding meets_from
meets_next room rooms at a b true e = rw e (omega arith)
meets_next room rooms at a b false e = rw e refl

pub meets_none : (at a b : ℕ) → length (meets_from size_of at (rooms_of []) a b) ≡ 0
unfolding meets_from
meets_none at a b = refl

pub meets_at : (rooms : List Room) (d : Room) (at a b size n : ℕ) (t : Bool) → 0 < length rooms
    → size ≡ size_of (plain_room (get_or rooms 0 d)) → nat_lt (max at a) (min (at + size) b) ≡ t
    → n ≡ length (meets_from size_of (at + size) (rooms_of (take (length rooms - 1) (drop 1 rooms))) a b)
    → length (meets_from size_of at (rooms_of rooms) a b) ≡ cond t (n + 1) n
meets_at [] d at a b size n t some e l is = absurd (omega arith)
meets_at (room ∷ rooms) d at a b size n t some e l is =
    meets_next room rooms at a b t (ap (λ k. nat_lt (max at a) (min (at + k) b)) (sym e) ∙ l)
    ∙ ap (λ k. cond t (length (meets_from size_of (at + k) (rooms_of rooms) a b) + 1)
    (length (meets_from size_of (at + k) (rooms_of rooms) a b))) (sym e)
    ∙ ap (λ k. cond t (k + 1) k) (sym
    (is ∙ ap (λ xs. length (meets_from size_of (at + size) (rooms_of xs) a b))
    (take_all (suc (length rooms) - 1) rooms (omega arith))))

pub meets_empty : (rooms : List Room) (at a b : ℕ) → length rooms < 1
    → length (meets_from size_of at (rooms_of rooms) a b) ≡ 0
meets_empty [] at a b h = meets_none at a b
meets_empty (room ∷ rooms) at a b h = absurd (omega arith)

pub sent_long : (n : ℕ) → 72 < n → Layout.sent n ≡ Layout.Plain 28 ∷ filled n 1992 100 n
sent_long n h =
    cond-false (nat_le n 72) _ _ (lt-leb n 72 h)
    ∙ ap (λ xs. Layout.Plain 28 ∷ xs) (or_empty_some n 1992 100 n (omega arith) (omega arith))
