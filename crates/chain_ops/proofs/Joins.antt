-- Laws of joins, over lists of entries.
use Rattle.std.proofs.Common.{◌≡◌, ℕ, zero, suc, ◌+◌, ◌-◌, ◌*◌, ◌/◌, ◌<◌, ◌≤◌, cond, Bool, true, false, List, [], ◌∷◌, ◌++◌, length, take, drop, Option, None, Some, is_some, refl, sym, ap, ◌∙◌, subst, arith, append_assoc}
use Rattle.std.specs.Prelude.{slice_set, nat_le, not}
use Rattle.std.proofs.lemmas.Bool.{cond-true, cond-false, lt-ltb, le-ltb, le-leb, lt-leb, eq-eqb, ne_eqb, leb-true, not-true, and_parts}
use Rattle.std.proofs.lemmas.List.{take_all, take-set-le, take_more, get_or-set_same, length-set, length-append, length-take}
use Rattle.mbuf_chain.specs.declared.place.Place.{Place}
use Rattle.mbuf_chain.specs.Chain.{Entry, Front, ChainView, PoolView, alone, entry_of, no_entry, chain_of, trailing_space, leading_space, room_end, HasTrailingSpace, IsLive, IsPlace, with_chain, without, Adds, flat_bytes}
use Rattle.mbuf_chain.specs.Steps.{first_part, narrowed, with_front, with_back, with_entry, one_mbuf, empty_entry, joined, linked}
use Rattle.chain_ops.specs.Joins.{filled_up, cat}
use Rattle.chain_ops.specs.Pulls.{has_room, moved}
use Rattle.chain_ops.specs.Prepends.{prepended, prepended_front, prepend_need}
use Rattle.chain_ops.specs.Rooms.{room_low, at_end}
use Rattle.chain_ops.specs.Makes.{Makes}
use Rattle.mbuf_chain.proofs.Laws.Owners.{shown_with}
use Rattle.mbuf_chain.proofs.Laws.Steps.{linked_front}
use Rattle.chain_ops.proofs.Lists.{at_entry}
use Rattle.chain_ops.proofs.Laws.Steps.{none_of}
use Rattle.chain_ops.proofs.Laws.Makes.{makes_new, makes_in_place}

-- an entry with trailing space is plain
pub plain_with_room : (e : Entry) (n : ℕ) → n < trailing_space e → e.cluster ≡ None
plain_with_room e n h = go e.cluster h
  where
    go : (o : Option ℕ) → n < cond {A = ℕ} (is_some o) 0 (128 - e.start - length e.bytes) → o ≡ None
    go None h = refl
    go (Some c) h = absurd (omega arith)

pub fill-goes : (e f : Entry) (fs : List Entry) → length f.bytes < trailing_space e
    → filled_up e (f ∷ fs) ≡ filled_up (with_back e f.bytes) fs
fill-goes e f fs h = cond-true {A = List Entry} _ _ _ (lt-ltb (length f.bytes) (trailing_space e) h)

pub fill-stops : (e f : Entry) (fs : List Entry) → trailing_space e ≤ length f.bytes → filled_up e (f ∷ fs) ≡ e ∷ f ∷ fs
fill-stops e f fs h = cond-false {A = List Entry} _ _ _ (le-ltb (length f.bytes) (trailing_space e) h)

-- a join fills up the last entry
pub cat_last : (es fs : List Entry) (i : ℕ) → i + 1 ≡ length es
    → cat es fs ≡ take i es ++ filled_up (Rattle.std.specs.Prelude.slice_index_or es i no_entry) fs
cat_last [] fs i e = absurd (omega arith)
cat_last (x ∷ []) fs zero e = refl
cat_last (x ∷ []) fs (suc i) e = absurd (omega arith)
cat_last (x ∷ y ∷ es) fs zero e = absurd (omega arith)
cat_last (x ∷ y ∷ es) fs (suc i) e = ap (λ (zs : List Entry). x ∷ zs) (cat_last (y ∷ es) fs i (omega arith))

-- the entries are those before the last one, and the last one
pub last_split : (es : List Entry) (i : ℕ) → i + 1 ≡ length es
    → take i es ++ (Rattle.std.specs.Prelude.slice_index_or es i no_entry ∷ []) ≡ es
last_split es i e = sym (take_more es i no_entry (omega arith)) ∙ take_all (i + 1) es (omega arith)

-- the bytes of one more entry were moved
pub fill_step : (es : List Entry) (i : ℕ) (f : Entry) (fs : List Entry) (xs : List ℕ) → i < length es → xs ≡ f.bytes
    → length f.bytes < trailing_space (Rattle.std.specs.Prelude.slice_index_or es i no_entry)
    → take i (slice_set es i (with_back (Rattle.std.specs.Prelude.slice_index_or es i no_entry) xs))
    ++ filled_up (Rattle.std.specs.Prelude.slice_index_or
    (slice_set es i (with_back (Rattle.std.specs.Prelude.slice_index_or es i no_entry) xs)) i no_entry) fs
    ≡ take i es ++ filled_up (Rattle.std.specs.Prelude.slice_index_or es i no_entry) (f ∷ fs)
fill_step es i f fs xs lt all room =
    let e : Entry = Rattle.std.specs.Prelude.slice_index_or es i no_entry in
    (λ j. take-set-le i es i (with_back e xs) (omega arith) j
    ++ filled_up (get_or-set_same es i (with_back e xs) no_entry lt j) fs)
    ∙ ap (λ (ys : List ℕ). take i es ++ filled_up (with_back e ys) fs) all
    ∙ ap (λ (zs : List Entry). take i es ++ zs) (sym (fill-goes e f fs room))

-- the remaining entries were linked
pub fill_end : (es : List Entry) (i : ℕ) (f : Entry) (fs : List Entry) → i + 1 ≡ length es
    → trailing_space (Rattle.std.specs.Prelude.slice_index_or es i no_entry) ≤ length f.bytes
    → es ++ (f ∷ fs) ≡ take i es ++ filled_up (Rattle.std.specs.Prelude.slice_index_or es i no_entry) (f ∷ fs)
fill_end es i f fs e full =
    let x : Entry = Rattle.std.specs.Prelude.slice_index_or es i no_entry in
    ap (λ (zs : List Entry). zs ++ (f ∷ fs)) (sym (last_split es i e)) ∙ append_assoc (take i es) (x ∷ []) (f ∷ fs)
    ∙ ap (λ (zs : List Entry). take i es ++ zs) (sym (fill-stops x f fs full))

pub one_entry : (es : List Entry) (f : Entry) (fs : List Entry) → es ≡ f ∷ fs → length es ≡ 1 → fs ≡ []
one_entry es f [] e n = refl
one_entry es f (g ∷ gs) e n = absurd (omega (arith, ap (λ (xs : List Entry). length xs) e))

pub set_first : (es : List Entry) (e : Entry) → 0 < length es → slice_set es 0 e ≡ e ∷ drop 1 es
set_first [] e h = absurd (omega arith)
set_first (x ∷ es) e h = refl

pub at_end_fits : (low n : ℕ) → low + n ≤ 128 → low + (128 - low - n) / 4 * 4 + n ≤ 128
at_end_fits low n h = omega arith

-- the first entry, and the others
pub first_split : (v : ChainView) (at : Place) → IsPlace v at → at.index ≡ 0
    → v.entries ≡ entry_of v at.index ∷ drop 1 v.entries
first_split v at place first =
    ap (λ (i : ℕ). drop i v.entries) (sym first) ∙ at_entry v at place
    ∙ ap (λ (i : ℕ). entry_of v at.index ∷ drop (i + 1) v.entries) first

pub first_bytes : (v : ChainView) (at : Place) → IsPlace v at → at.index ≡ 0
    → length (flat_bytes v.entries) ≡ length (entry_of v at.index).bytes + length (flat_bytes (drop 1 v.entries))
first_bytes v at place first =
    ap (λ (es : List Entry). length (flat_bytes es)) (first_split v at place first)
    ∙ length-append (entry_of v at.index).bytes (flat_bytes (drop 1 v.entries))

-- the first entry of a chain was moved after the last one of another
pub cat_moved : (p q : PoolView) (c d : ℕ) (last from : Place) (len : ℕ)
    → q ≡ with_chain p c (with_entry (chain_of p c) last.index
    (with_back (entry_of (chain_of p c) last.index) (take len (drop 0 (entry_of (chain_of p d) from.index).bytes))))
    → IsPlace (chain_of p c) last → IsPlace (chain_of p d) from → from.index ≡ 0
    → len ≡ length (entry_of (chain_of p d) from.index).bytes
    → len < trailing_space (entry_of (chain_of p c) last.index)
    → take last.index (chain_of q c).entries
    ++ filled_up (entry_of (chain_of q c) last.index) (drop 1 (chain_of p d).entries)
    ≡ take last.index (chain_of p c).entries ++ filled_up (entry_of (chain_of p c) last.index) (chain_of p d).entries
cat_moved p q c d last from len is place there first size room =
    let v : ChainView = chain_of p c in
    let w : ChainView = chain_of p d in
    let f : Entry = entry_of w from.index in
    let xs : List ℕ = take len (drop 0 f.bytes) in
    let shown : chain_of q c ≡ with_entry v last.index (with_back (entry_of v last.index) xs) =
    shown_with p q c (with_entry v last.index (with_back (entry_of v last.index) xs)) is in
    (λ j. take last.index (shown j).entries ++ filled_up (entry_of (shown j) last.index) (drop 1 w.entries))
    ∙ fill_step v.entries last.index f (drop 1 w.entries) xs place.within (take_all len f.bytes (omega arith))
    (omega (arith, size, room))
    ∙ ap (λ (es : List Entry). take last.index v.entries ++ filled_up (entry_of v last.index) es)
    (sym (first_split w from there first))

-- bytes written before the first entry's bytes
pub prepended_in : (p q : PoolView) (c : ℕ) (at : Place) (xs : List ℕ) → IsPlace (chain_of p c) at → at.index ≡ 0
    → length xs ≤ leading_space (chain_of p c) at.index
    → q ≡ with_chain p c (with_entry (chain_of p c) at.index (with_front (entry_of (chain_of p c) at.index) xs))
    → Makes (without p c) q c (prepended_front (chain_of p c) (length xs)) (prepended (chain_of p c) xs)
prepended_in p q c at xs place first fits is =
    let v : ChainView = chain_of p c in
    let test : nat_le (length xs) (leading_space v 0) ≡ true =
    le-leb (length xs) (leading_space v 0) (omega (arith, fits, ap (leading_space v) first)) in
    let is' : q ≡ with_chain p c (with_entry v 0 (with_front (entry_of v 0) xs)) =
    is ∙ ap (λ (i : ℕ). with_chain p c (with_entry v i (with_front (entry_of v i) xs))) first in
    let m = makes_in_place p q c (with_entry v 0 (with_front (entry_of v 0) xs)) is' in
    record {
      adds = m.adds;
      front = m.front ∙ sym (cond-true {A = Front} _ v.front (alone v.front.header) test);
      entries =
          m.entries ∙ set_first v.entries (with_front (entry_of v 0) xs) (omega (arith, place.within))
          ∙ sym (cond-true {A = List Entry} _ _ _ test);
    }

-- a chain linked after a new one, with the chains' numbers given by equations
linked_as : (p r t : PoolView) (c c' d d' : ℕ) (w : ChainView) → c' ≡ c → d' ≡ d → IsLive p c → Adds p r d w
    → t ≡ linked r d' c' → Adds (without p c) t d' (joined w (chain_of p c))
linked_as p r t c c' d d' w ec ed live a is =
    linked_front p r t c d' w live (subst (λ (k : ℕ). Adds p r k w) (sym ed) a) (is ∙ ap (linked r d') ec)

-- bytes written into a new mbuf before the chain
pub prepended_new : (p r t : PoolView) (c c' d d' start : ℕ) (h : Bool) (xs : List ℕ) → h ≡ (chain_of p c).front.header
    → leading_space (chain_of p c) 0 < length xs → start ≡ at_end h (length xs) → c' ≡ c → d' ≡ d → IsLive p c
    → Adds p r d (one_mbuf h (with_back (empty_entry start None) xs) d) → t ≡ linked r d' c'
    → Makes (without p c) t d' (prepended_front (chain_of p c) (length xs)) (prepended (chain_of p c) xs)
prepended_new p r t c c' d d' start h xs eh lacks at ec ed live a is =
    let v : ChainView = chain_of p c in
    let test : nat_le (length xs) (leading_space v 0) ≡ false = lt-leb (length xs) (leading_space v 0) lacks in
    let m = makes_new (linked_as p r t c c' d d' _ ec ed live a is) in
    let at' : start ≡ at_end v.front.header (length xs) = at ∙ ap (λ (b : Bool). at_end b (length xs)) eh in
    record {
      adds = m.adds;
      front = m.front ∙ ap alone eh ∙ sym (cond-false {A = Front} _ v.front (alone v.front.header) test);
      entries =
          m.entries ∙ ap (λ (s : ℕ). let e : Entry = record { bytes = xs; start = s; cluster = None } in e ∷ v.entries)
          at' ∙ sym (cond-false {A = List Entry} _ _ _ test);
    }

pub need_none : (v : ChainView) (n : ℕ) → n ≤ leading_space v 0 → prepend_need v n ≡ 0
need_none v n h = cond-true {A = ℕ} _ 0 1 (le-leb n (leading_space v 0) h)

pub need_one : (v : ChainView) (n : ℕ) → leading_space v 0 < n → prepend_need v n ≡ 1
need_one v n h = cond-false {A = ℕ} _ 0 1 (lt-leb n (leading_space v 0) h)

pub low_at_most : (h : Bool) → room_low h ≤ 28
low_at_most true = omega arith
low_at_most false = omega arith

-- ---- bytes moved
abbrev at : List Entry → ℕ → Entry
at es i = Rattle.std.specs.Prelude.slice_index_or es i no_entry

pub moved-none : (e : Entry) (fs : List Entry) (n : ℕ) → n ≡ 0 → moved n e fs ≡ e ∷ fs
moved-none e [] n z = refl
moved-none e (f ∷ fs) n z = cond-true {A = List Entry} _ _ _ (eq-eqb n 0 z)

pub moved-goes : (e f : Entry) (fs : List Entry) (n : ℕ) → 0 < n → length f.bytes ≤ n
    → moved n e (f ∷ fs) ≡ moved (n - length f.bytes) (with_back e f.bytes) fs
moved-goes e f fs n some h =
    cond-false {A = List Entry} _ _ _ (ne_eqb n 0 (λ z. absurd (omega arith)))
    ∙ cond-true {A = List Entry} _ _ _ (le-leb (length f.bytes) n h)

pub moved-part : (e f : Entry) (fs : List Entry) (n : ℕ) → 0 < n → n < length f.bytes
    → moved n e (f ∷ fs) ≡ with_back e (take n f.bytes) ∷ narrowed f n (length f.bytes - n) ∷ fs
moved-part e f fs n some h =
    cond-false {A = List Entry} _ _ _ (ne_eqb n 0 (λ z. absurd (omega arith)))
    ∙ cond-false {A = List Entry} _ _ _ (lt-leb (length f.bytes) n h)

pub set_last : (es : List Entry) (i : ℕ) (e : Entry) → i + 1 ≡ length es → slice_set es i e ≡ take i es ++ (e ∷ [])
set_last es i e end =
    sym (last_split (slice_set es i e) i (end ∙ sym (length-set es i e)))
    ∙ (λ j. take-set-le i es i e (omega arith) j ++ (get_or-set_same es i e no_entry (omega arith) j ∷ []))

pub move_step : (es : List Entry) (i : ℕ) (f : Entry) (fs : List Entry) (xs : List ℕ) (n m : ℕ) → i < length es
    → xs ≡ f.bytes → 0 < n → length f.bytes ≤ n → m ≡ n - length f.bytes
    → take i (slice_set es i (with_back (at es i) xs)) ++ moved m (at (slice_set es i (with_back (at es i) xs)) i) fs
    ≡ take i es ++ moved n (at es i) (f ∷ fs)
move_step es i f fs xs n m lt all some h left =
    let e : Entry = at es i in
    (λ j. take-set-le i es i (with_back e xs) (omega arith) j
    ++ moved (left j) (get_or-set_same es i (with_back e xs) no_entry lt j) fs)
    ∙ ap (λ (ys : List ℕ). take i es ++ moved (n - length f.bytes) (with_back e ys) fs) all
    ∙ ap (λ (zs : List Entry). take i es ++ zs) (sym (moved-goes e f fs n some h))

pub part_step : (es ws : List Entry) (i j n len : ℕ) (f : Entry) (fs : List Entry) → i + 1 ≡ length es → j ≡ 0
    → ws ≡ f ∷ fs → len ≡ length f.bytes → 0 < n → n < len
    → slice_set es i (with_back (at es i) (take n (drop 0 f.bytes))) ++ slice_set ws j (narrowed f n (len - n))
    ≡ take i es ++ moved n (at es i) ws
part_step es ws i j n len f fs end first split size some h =
    let e : Entry = at es i in
    let g : Entry = narrowed f n (len - n) in
    (λ k. set_last es i (with_back e (take n f.bytes)) end k ++ slice_set (split k) (first k) g)
    ∙ append_assoc (take i es) (with_back e (take n f.bytes) ∷ []) (g ∷ fs)
    ∙ ap (λ (k : ℕ). take i es ++ (with_back e (take n f.bytes) ∷ narrowed f n (k - n) ∷ fs)) size
    ∙ ap (λ (zs : List Entry). take i es ++ zs) (sym (moved-part e f fs n some (omega arith)))
    ∙ ap (λ (zs : List Entry). take i es ++ moved n e zs) (sym split)

pub stop_step : (es ws : List Entry) (i n : ℕ) → i + 1 ≡ length es → n ≡ 0
    → es ++ ws ≡ take i es ++ moved n (at es i) ws
stop_step es ws i n end z =
    ap (λ (zs : List Entry). zs ++ ws) (sym (last_split es i end)) ∙ append_assoc (take i es) (at es i ∷ []) ws
    ∙ ap (λ (zs : List Entry). take i es ++ zs) (sym (moved-none (at es i) ws n z))

-- the entry that got bytes
pub entry_now : (p q : PoolView) (c i : ℕ) (e : Entry) → i < length (chain_of p c).entries
    → q ≡ with_chain p c (with_entry (chain_of p c) i e) → entry_of (chain_of q c) i ≡ e
entry_now p q c i e lt is =
    ap (λ (v : ChainView). entry_of v i) (shown_with p q c (with_entry (chain_of p c) i e) is)
    ∙ get_or-set_same (chain_of p c).entries i e no_entry lt

pub pull_moved : (p q : PoolView) (c d : ℕ) (last from : Place) (len left : ℕ)
    → q ≡ with_chain p c (with_entry (chain_of p c) last.index
    (with_back (entry_of (chain_of p c) last.index) (take len (drop 0 (entry_of (chain_of p d) from.index).bytes))))
    → IsPlace (chain_of p c) last → IsPlace (chain_of p d) from → from.index ≡ 0
    → len ≡ length (entry_of (chain_of p d) from.index).bytes → 0 < left → len ≤ left
    → take last.index (chain_of q c).entries
    ++ moved (left - len) (entry_of (chain_of q c) last.index) (drop 1 (chain_of p d).entries)
    ≡ take last.index (chain_of p c).entries ++ moved left (entry_of (chain_of p c) last.index) (chain_of p d).entries
pull_moved p q c d last from len left is place there first size some h =
    let v : ChainView = chain_of p c in
    let w : ChainView = chain_of p d in
    let f : Entry = entry_of w from.index in
    let xs : List ℕ = take len (drop 0 f.bytes) in
    let shown : chain_of q c ≡ with_entry v last.index (with_back (entry_of v last.index) xs) =
    shown_with p q c (with_entry v last.index (with_back (entry_of v last.index) xs)) is in
    (λ j. take last.index (shown j).entries ++ moved (left - len) (entry_of (shown j) last.index) (drop 1 w.entries))
    ∙ move_step v.entries last.index f (drop 1 w.entries) xs left (left - len) place.within
    (take_all len f.bytes (omega arith)) some (omega arith) (ap (λ (n : ℕ). left - n) size)
    ∙ ap (λ (es : List Entry). take last.index v.entries ++ moved left (entry_of v last.index) es)
    (sym (first_split w from there first))

-- the trailing space after bytes were added
pub room_left : (e : Entry) (f : Entry) (len left : ℕ) → HasTrailingSpace e left → len ≡ length f.bytes → len ≤ left
    → HasTrailingSpace (with_back e (take len (drop 0 f.bytes))) (left - len)
room_left e f len left room size h =
    omega (arith, room, size, length-append e.bytes (take len f.bytes), length-take len f.bytes)

-- ---- a first entry with room
pub first_entry : (v : ChainView) → entry_of (first_part 1 v) 0 ≡ entry_of v 0
first_entry v = go v.entries
  where
    go : (es : List Entry) → at (take 1 es) 0 ≡ at es 0
    go [] = refl
    go (x ∷ es) = refl

pub room_plain : (e : Entry) (n : ℕ) → has_room e n ≡ true → e.cluster ≡ None
room_plain e n h =
    none_of e.cluster (not-true (is_some e.cluster)
    (and_parts (not (is_some e.cluster)) (nat_le (e.start + n) 128) h).0)

pub room_back : (e : Entry) (n : ℕ) → has_room e n ≡ true → length e.bytes ≤ n → HasTrailingSpace e (n - length e.bytes)
room_back e n h le =
    let fits : e.start + n ≤ 128 =
    leb-true (e.start + n) 128 (and_parts (not (is_some e.cluster)) (nat_le (e.start + n) 128) h).1 in
    let end : room_end e ≡ 128 =
    cond-false {A = ℕ} (is_some e.cluster) 2048 128 (ap (λ (o : Option ℕ). is_some o) (room_plain e n h)) in
    omega (arith, fits, end)
