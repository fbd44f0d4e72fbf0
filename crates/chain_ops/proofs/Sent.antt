-- Bytes to send, after room for the headers was made before them.
use Rattle.std.proofs.Common.{◌≡◌, ℕ, ◌+◌, ◌-◌, ◌<◌, ◌≤◌, min, cond, Bool, true, false, List, [], ◌∷◌, ◌++◌, length, take, count_by, None, sym, ap, ◌∙◌, subst, arith, inl, inr}
use Rattle.std.specs.Prelude.{◌⊎◌, nat_le}
use Rattle.std.proofs.lemmas.Bool.{cases_lt, le-leb, lt-leb, cond-true, cond-false}
use Rattle.std.proofs.lemmas.List.{length-append, take_all}
use Rattle.mbuf_chain.specs.Chain.{Entry, ChainView, alone, leading_space}
use Rattle.flat_model.specs.Amounts.Layout as flat
use Rattle.flat_model.specs.Amounts.Layout.{Room, Plain, Cluster, is_cluster, next_room, size_of, entries_on, user, sent}
use Rattle.chain_ops.specs.Prepends.{prepended}
use Rattle.chain_ops.specs.Stored.{stored_first, first_start}
use Rattle.chain_ops.specs.Weights.{layout_entries}
use Rattle.chain_ops.proofs.Laws.Rooms.{rest_rooms, rest_none}
use Rattle.chain_ops.proofs.Stored.{rooms_begin, user_placed}

-- a chain with these entries; the headers fit into its leading space if it has at most 72 bytes to send
abbrev view : List Entry → ChainView
view es = record { front = alone true; entries = es; cells = [] }

-- if the leading space is too small, the headers get an mbuf of their own
apart : (hs : List ℕ) (es : List Entry) → length hs ≡ 28 → leading_space (view es) 0 < 28
    → layout_entries (prepended (view es) hs) ≡ record { size = 28; cluster = None } ∷ layout_entries es
apart hs es len small =
    let test : nat_le (length hs) (leading_space (view es) 0) ≡ false =
    lt-leb (length hs) (leading_space (view es) 0) (omega (arith, len, small)) in
    ap layout_entries (cond-false {A = List Entry} _ _ _ test)
    ∙ ap (λ (n : ℕ). let x : flat.LayoutEntry = record { size = n; cluster = None } in x ∷ layout_entries es) len

within : (hs : List ℕ) (e : Entry) (es : List Entry) → length hs ≡ 28 → 28 ≤ leading_space (view (e ∷ es)) 0
    → layout_entries (prepended (view (e ∷ es)) hs)
    ≡ record { size = 28 + length e.bytes; cluster = e.cluster } ∷ layout_entries es
within hs e es len large =
    let test : nat_le (length hs) (leading_space (view (e ∷ es)) 0) ≡ true =
    le-leb (length hs) (leading_space (view (e ∷ es)) 0) (omega (arith, len, large)) in
    let size : length (hs ++ e.bytes) ≡ 28 + length e.bytes = omega (arith, len, length-append hs e.bytes) in
    ap layout_entries (cond-true {A = List Entry} _ _ _ test)
    ∙ ap (λ (n : ℕ). let x : flat.LayoutEntry = record { size = n; cluster = e.cluster } in x ∷ layout_entries es) size

-- the leading space of a plain mbuf with more than 72 bytes is too small
room_small : (cs : List ℕ) (n : ℕ) (rooms : List Room) (xs : List ℕ) → 72 < n → n ≤ 100
    → leading_space (view (stored_first 56 true cs (Plain n ∷ rooms) xs)) 0 < 28
room_small cs n rooms xs low high = omega arith

room_large : (cs : List ℕ) (n : ℕ) (rooms : List Room) (xs : List ℕ) → n ≤ 72
    → 28 ≤ leading_space (view (stored_first 56 true cs (Plain n ∷ rooms) xs)) 0
room_large cs n rooms xs low = omega arith

room_cluster : (cs : List ℕ) (n : ℕ) (rooms : List Room) (xs : List ℕ)
    → leading_space (view (stored_first 56 true cs (Cluster n ∷ rooms) xs)) 0 < 28
room_cluster [] n rooms xs = omega arith
room_cluster (c ∷ cs) n rooms xs = omega arith

user_small : (n : ℕ) → n ≤ 72 → user n ≡ Plain n ∷ []
user_small n h =
    let test : nat_le 208 n ≡ false = lt-leb 208 n (omega arith) in
    let least : min n 100 ≡ n = omega arith in
    let room : next_room (2048 - 56) 100 n ≡ Plain n = cond-false {A = Room} _ _ _ test ∙ ap Plain least in
    let none : n - n ≡ 0 = omega arith in
    rooms_begin 56 n (omega arith) ∙ (λ j. room j ∷ rest_rooms (n - size_of (room j)))
    ∙ ap (λ (k : ℕ). Plain n ∷ rest_rooms k) none ∙ ap (λ (rs : List Room). Plain n ∷ rs) rest_none

user_front : (cs xs : List ℕ) (n : ℕ) → 72 < n → leading_space (view (stored_first 56 true cs (user n) xs)) 0 < 28
user_front cs xs n h =
    subst (λ (rooms : List Room). leading_space (view (stored_first 56 true cs rooms xs)) 0 < 28)
    (sym (rooms_begin 56 n (omega arith)))
    (go (nat_le 208 n) (rest_rooms (n - size_of (next_room (2048 - 56) 100 n))))
  where
    go : (b : Bool) (rooms : List Room)
        → leading_space (view (stored_first 56 true cs
        (cond b (Cluster (min n (2048 - 56))) (Plain (min n 100)) ∷ rooms)
        xs)) 0 < 28
    go true rooms = room_cluster cs (min n (2048 - 56)) rooms xs
    go false rooms = room_small cs (min n 100) rooms xs (omega arith) (omega arith)

-- the headers and the bytes to send have the layout of the flat machine
pub sent_placed : (cs xs hs : List ℕ) → length cs ≡ count_by is_cluster (user (length xs)) → length hs ≡ 28
    → layout_entries (prepended (view (stored_first 56 true cs (user (length xs)) xs)) hs) ≡ entries_on cs
    (sent (length xs))
unfolding entries_on
sent_placed cs xs hs e len = go (cases_lt 72 (length xs))
  where
    go : (72 < length xs) ⊎ (length xs ≤ 72)
        → layout_entries (prepended (view (stored_first 56 true cs (user (length xs)) xs)) hs)
        ≡ entries_on cs (sent (length xs))
    go (inl h) =
        let sent' : sent (length xs) ≡ Plain 28 ∷ user (length xs) =
        cond-false {A = List Room} _ _ _ (lt-leb (length xs) 72 h) in
        apart hs (stored_first 56 true cs (user (length xs)) xs) len (user_front cs xs (length xs) h)
        ∙ ap (λ (es : List flat.LayoutEntry). let x : flat.LayoutEntry = record { size = 28; cluster = None } in x ∷ es)
        (user_placed cs xs e)
        ∙ ap (entries_on cs) (sym sent')
    go (inr h) =
        let n : ℕ = length xs in
        let sent' : sent n ≡ Plain (28 + n) ∷ [] = cond-true {A = List Room} _ _ _ (le-leb n 72 h) in
        let rooms : user n ≡ Plain n ∷ [] = user_small n h in
        let size : 28 + length (take n xs) ≡ 28 + n =
        ap (λ (ys : List ℕ). 28 + length ys) (take_all n xs (omega arith)) in
        ap (λ (rs : List Room). layout_entries (prepended (view (stored_first 56 true cs rs xs)) hs)) rooms
        ∙ within hs (record { bytes = take n xs; start = first_start true n; cluster = None }) [] len
        (room_large cs n [] xs h)
        ∙ ap (λ (k : ℕ). let x : flat.LayoutEntry = record { size = k; cluster = None } in x ∷ []) size
        ∙ ap (entries_on cs) (sym sent')
