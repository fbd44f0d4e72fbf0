-- How many mbufs the later fragments of a send take, counted for each mbuf of the datagram.
use mir.Val.{bool_byte}
use Rattle.std.proofs.Common.{◌≡◌, ℕ, zero, suc, ◌+◌, ◌-◌, ◌*◌, ◌/◌, ◌<◌, ◌≤◌, min, max, Bool, true, false, cond, List, [], ◌∷◌, length, map, drop, refl, sym, ap, ◌∙◌, arith, inl, inr}
use Rattle.std.specs.Prelude.{◌⊎◌, nat_lt, nat_le, sum_by, count_by}
use Rattle.std.specs.List.{range_with_len}
use Rattle.std.proofs.lemmas.Bool.{cases_lt, lt-ltb, le-ltb, cond-true, cond-false, lt-leb, le-leb}
use Rattle.std.proofs.lemmas.Nat.{div_below, le-div}
use Rattle.std.proofs.lemmas.List.Sums.{sum_by-cons}
use Rattle.std.proofs.lemmas.List.FromFn.{sum_by-map-range_with_len_more, length-map-range_with_len}
use Rattle.flat_model.specs.Fragments.Cuts.{Part, part, cuts, chunk, chunks}
use Rattle.ip_out.specs.Inside.{here, later_parts, Counts}
use Rattle.chain_ops.proofs.Laws.Rooms.{rest_rooms, rooms_step}
use Rattle.flat_model.specs.Amounts.Layout.{Room, Plain, Cluster, size_of, is_cluster, filled, next_room, or_empty, meets_from, need_of_part, sent, need}

-- the number of pairs of a room and a part that share a byte, if the first room begins at `at`
abbrev pub over : List Room → ℕ → List Part → ℕ
over rooms at parts =
    sum_by (λ (p : Part). length (meets_from size_of at rooms (20 + p.offset) (20 + p.offset + p.size))) parts

one_next : (room : Room) (rooms : List Room) (at : ℕ) (p : Part)
    → length (meets_from size_of at (room ∷ rooms) (20 + p.offset) (20 + p.offset + p.size))
    ≡ here at (at + size_of room) p
    + length (meets_from size_of (at + size_of room) rooms (20 + p.offset) (20 + p.offset + p.size))
unfolding meets_from
one_next room rooms at p = go (nat_lt (max at (20 + p.offset)) (min (at + size_of room) (20 + p.offset + p.size)))
  where
    go : (t : Bool) → length (cond {A = List Room} t
        (room ∷ meets_from size_of (at + size_of room) rooms (20 + p.offset) (20 + p.offset + p.size))
        (meets_from size_of (at + size_of room) rooms (20 + p.offset) (20 + p.offset + p.size)))
        ≡ cond {A = ℕ} t 1 0 + length (meets_from size_of (at + size_of room) rooms (20 + p.offset)
        (20 + p.offset + p.size))
    go true = omega arith
    go false = omega arith

pub over_next : (room : Room) (rooms : List Room) (at : ℕ) (parts : List Part)
    → over (room ∷ rooms) at parts ≡ sum_by (here at (at + size_of room)) parts + over rooms (at + size_of room) parts
over_next room rooms at [] = refl
over_next room rooms at (p ∷ parts) =
    let a : over (room ∷ rooms) at (p ∷ parts)
    ≡ length (meets_from size_of at (room ∷ rooms) (20 + p.offset) (20 + p.offset + p.size))
    + over (room ∷ rooms) at parts =
    sum_by-cons (λ (p : Part). length
    (meets_from size_of at (room ∷ rooms) (20 + p.offset) (20 + p.offset + p.size))) p parts in
    let b : sum_by (here at (at + size_of room)) (p ∷ parts)
    ≡ here at (at + size_of room) p + sum_by (here at (at + size_of room)) parts =
    sum_by-cons (here at (at + size_of room)) p parts in
    let d : over rooms (at + size_of room) (p ∷ parts)
    ≡ length (meets_from size_of (at + size_of room) rooms (20 + p.offset) (20 + p.offset + p.size))
    + over rooms (at + size_of room) parts =
    sum_by-cons (λ (p : Part). length
    (meets_from size_of (at + size_of room) rooms (20 + p.offset) (20 + p.offset + p.size))) p parts in
    omega (arith, a, b, d, one_next room rooms at p, over_next room rooms at parts)

pub over_none : (at : ℕ) (parts : List Part) → over [] at parts ≡ 0
unfolding meets_from
over_none at [] = refl
over_none at (p ∷ parts) = over_none at parts

-- each part needs one mbuf more than the number of rooms with which it shares a byte
pub more_is : (rooms : List Room) (parts : List Part)
    → sum_by (need_of_part rooms) parts ≡ length parts + over rooms 0 parts
more_is rooms [] = refl
more_is rooms (p ∷ parts) =
    let a : sum_by (need_of_part rooms) (p ∷ parts) ≡ need_of_part rooms p + sum_by (need_of_part rooms) parts =
    sum_by-cons (need_of_part rooms) p parts in
    let b : over rooms 0 (p ∷ parts)
    ≡ length (meets_from size_of 0 rooms (20 + p.offset) (20 + p.offset + p.size)) + over rooms 0 parts =
    sum_by-cons (λ (p : Part). length (meets_from size_of 0 rooms (20 + p.offset) (20 + p.offset + p.size))) p parts
    in
    omega (arith, a, b, more_is rooms parts)

here_is : (x y : ℕ) → ((x < y) × (cond {A = ℕ} (nat_lt x y) 1 0 ≡ 1)) ⊎ ((y ≤ x) × (cond {A = ℕ} (nat_lt x y) 1 0 ≡ 0))
here_is x y = elim (cases_lt x y) [
  | inl l ↦ inl (l, cond-true {A = ℕ} _ 1 0 (lt-ltb x y l))
  | inr g ↦ inr (g, cond-false {A = ℕ} _ 1 0 (le-ltb x y g))
]

pub div_cases : (x c k : ℕ) → 0 < c → ((x < k * c) × (x / c < k)) ⊎ ((k * c ≤ x) × (k ≤ x / c))
div_cases x c k some = elim (cases_lt x (k * c)) [
  | inl l ↦ inl (l, div_below x c k some l)
  | inr g ↦ inr (g, le-div k x c some g)
]

div_times : (x c : ℕ) → 0 < c → x / c * c ≤ x
div_times x c some = elim (div_cases x c (x / c) some) [
  | inl lt ↦ absurd (omega (arith, lt.1))
  | inr ge ↦ ge.0
]

pub mul_more : (k c : ℕ) → (k + 1) * c ≡ k * c + c
mul_more k c = omega arith

-- the number of later parts that share a byte with those from `at` up to `after`
pub closed : (n c at after m : ℕ) → 0 < c → at < after → after ≤ 20 + n → ((i : ℕ) → i ≤ m → (0 < i) → i * c < n)
    → sum_by (here at after) (map (part n c) (range_with_len 1 m)) ≡ min m ((after - 21) / c) - ((at - 20) / c - 1)
closed n c at after zero some l h all = omega arith
closed n c at after (suc m) some l h all =
    let j : ℕ = m + 1 in
    let ih = closed n c at after m some l h (λ i le. all i (omega arith)) in
    let up : suc m ≡ m + 1 = omega arith in
    let more = sum_by-map-range_with_len_more (here at after) (part n c) 1 m j (omega arith) in
    let is = here_is (max at (20 + j * c)) (min after (20 + j * c + min c (n - j * c))) in
    omega (
      arith,
      ih,
      ap (λ (k : ℕ). sum_by (here at after) (map (part n c) (range_with_len 1 k))) up,
      more,
      is,
      all j (omega arith) (omega arith),
      div_cases (after - 21) c j some,
      div_cases (at - 20) c (j + 1) some,
      mul_more m c,
      mul_more j c,
    )

-- ---- the parts
cut_short : (n mtu : ℕ) → n + 28 ≤ mtu → later_parts n mtu ≡ []
unfolding cuts
cut_short n mtu h =
    ap (λ (xs : List Part). drop 1 xs)
    (cond-true {A = List Part} (nat_le (20 + (n + 8)) mtu) _ _ (le-leb (20 + (n + 8)) mtu (omega arith)))

cut_long : (n mtu : ℕ) → mtu < n + 28
    → later_parts n mtu ≡ drop 1 (map (part (n + 8) (chunk mtu)) (range_with_len 0 (chunks (n + 8) (chunk mtu))))
unfolding cuts
cut_long n mtu h =
    ap (λ (xs : List Part). drop 1 xs)
    (cond-false {A = List Part} (nat_le (20 + (n + 8)) mtu) _ _ (lt-leb (20 + (n + 8)) mtu (omega arith)))

after_first : (f : ℕ → Part) (k : ℕ) → drop 1 (map f (range_with_len 0 k)) ≡ map f (range_with_len 1 (k - 1))
after_first f zero = refl
after_first f (suc k) = let e : k ≡ suc k - 1 = omega arith in ap (λ (n : ℕ). map f (range_with_len 1 n)) e

pub counts_none : (n mtu : ℕ) → n ≤ 65507 → n + 28 ≤ mtu → Counts n mtu 131072 0
counts_none n mtu short h = record {
  parts = sym (ap (λ (xs : List Part). length xs) (cut_short n mtu h));
  counts =
      λ at after l b. ap (sum_by (here at after)) (cut_short n mtu h)
      ∙ omega (arith, div_below (after - 21) 131072 1 (omega arith) (omega arith));
}

pub counts_some : (n mtu c : ℕ) → n ≤ 65507 → 68 ≤ mtu → mtu < n + 28 → c ≡ chunk mtu
    → Counts n mtu c ((n + 8 + (c - 1)) / c - 1)
counts_some n mtu c short least h e =
    go (cut_long n mtu h ∙ after_first (part (n + 8) (chunk mtu)) (chunks (n + 8) (chunk mtu))
    ∙ ap (λ (k : ℕ). map (part (n + 8) k) (range_with_len 1 (chunks (n + 8) k - 1))) (sym e))
  where
    big : 48 ≤ c
    big = omega (arith, e)

    go : later_parts n mtu ≡ map (part (n + 8) c) (range_with_len 1 (chunks (n + 8) c - 1))
        → Counts n mtu c ((n + 8 + (c - 1)) / c - 1)
    go is = record {
      parts =
          sym (ap (λ (xs : List Part). length xs) is
          ∙ length-map-range_with_len (part (n + 8) c) 1 (chunks (n + 8) c - 1));
      counts = λ at after l b.
          let m : ℕ = chunks (n + 8) c - 1 in
          let inside : (i : ℕ) → i ≤ m → 0 < i → i * c < n + 8 =
          λ i le some. elim (div_cases (n + 8 + (c - 1)) c (i + 1) (omega (arith, big))) [
            | inl lt ↦ absurd (omega (arith, lt.1, le))
            | inr ge ↦ omega (arith, ge.0, mul_more i c, big)
          ] in
          let most : (after - 21) / c ≤ m =
          elim (div_cases (n + 8 + (c - 1)) c ((after - 21) / c + 1) (omega (arith, big))) [
            | inl lt ↦ absurd (omega (
              arith,
              lt.0,
              mul_more ((after - 21) / c) c,
              big,
              div_times (after - 21) c (omega (arith, big)),
            ))
            | inr ge ↦ omega (arith, ge.1)
          ] in
          ap (sum_by (here at after)) is ∙ closed (n + 8) c at after m (omega (arith, big)) l (omega (arith, b)) inside
          ∙ omega (arith, most);
    }

-- ---- the rooms
pub sent_short : (n : ℕ) → n ≤ 72 → sent n ≡ Plain (28 + n) ∷ []
sent_short n h = cond-true {A = List Room} (nat_le n 72) _ _ (le-leb n 72 h)

pub sent_long : (n : ℕ) → 72 < n → sent n ≡ Plain 28 ∷ filled n 1992 100 n
sent_long n h =
    cond-false {A = List Room} (nat_le n 72) _ _ (lt-leb n 72 h)
    ∙ ap (λ (xs : List Room). Plain 28 ∷ xs)
    (ap or_empty (rooms_step 1992 100 n (omega arith) (omega arith) (omega arith))
    ∙ sym (rooms_step 1992 100 n (omega arith) (omega arith) (omega arith)))

pub need_is : (n mtu m : ℕ) (rooms : List Room) → sent n ≡ rooms → m ≡ length (later_parts n mtu)
    → (need n mtu).mbufs ≡ length rooms + (m + over rooms 0 (later_parts n mtu))
need_is n mtu m rooms e is =
    ap (λ (rs : List Room). length rs + sum_by (need_of_part rs) (later_parts n mtu)) e
    ∙ omega (arith, more_is rooms (later_parts n mtu), is)

-- the next mbuf of a layout
abbrev pub Kind : ℕ → ℕ → ℕ → ℕ → ℕ → Type 0
Kind left large small size one =
    ((208 ≤ left) × (size ≡ min left large) × (one ≡ 1)) ⊎ ((left < 208) × (size ≡ min left small) × (one ≡ 0))

-- from the result of `next_room`
pub kind_is : (left large small size one : ℕ) (b : Bool) → size ≡ size_of (next_room large small left)
    → b ≡ nat_le 208 left → one ≡ bool_byte b → Kind left large small size one
kind_is left large small size one b is_size is_large is_one = elim (cases_lt left 208) [
  | inl l ↦
      (let e : next_room large small left
      ≡ Plain (min left small) = cond-false {A = Room} (nat_le 208 left) _ _ (lt-leb 208 left l) in
      inr (l, is_size ∙ ap size_of e, is_one ∙ ap bool_byte (is_large ∙ lt-leb 208 left l)))
  | inr g ↦
      (let e : next_room large small left
      ≡ Cluster (min left large) = cond-true {A = Room} (nat_le 208 left) _ _ (le-leb 208 left g) in
      inl (g, is_size ∙ ap size_of e, is_one ∙ ap bool_byte (is_large ∙ le-leb 208 left g)))
]

pub record Next (n mtu left large small size one met : ℕ) : Type 0 where
  pub some : 0 < size
  pub most : size ≤ left
  pub mbufs : length (filled left large small left)
      + over (filled left large small left) (28 + (n - left)) (later_parts n mtu)
      ≡ 1 + met + (length (filled (left - size) 2048 108 (left - size))
      + over (filled (left - size) 2048 108 (left - size)) (28 + (n - (left - size))) (later_parts n mtu))
  pub clusters : count_by is_cluster (filled left large small left)
      ≡ one + count_by is_cluster (filled (left - size) 2048 108 (left - size))

pub record Room_is (room : Room) (size one : ℕ) : Type 0 where
  pub size_is : size_of room ≡ size
  pub one_is : (rooms : List Room) → count_by is_cluster (room ∷ rooms) ≡ one + count_by is_cluster rooms

one_cluster : (k : ℕ) (rooms : List Room) → count_by is_cluster (Cluster k ∷ rooms) ≡ 1 + count_by is_cluster rooms
one_cluster k rooms = sum_by-cons (λ (r : Room). cond {A = ℕ} (is_cluster r) 1 0) (Cluster k) rooms

no_cluster : (k : ℕ) (rooms : List Room) → count_by is_cluster (Plain k ∷ rooms) ≡ 0 + count_by is_cluster rooms
no_cluster k rooms = sum_by-cons (λ (r : Room). cond {A = ℕ} (is_cluster r) 1 0) (Plain k) rooms

room_is : (left large small size one : ℕ) → Kind left large small size one
    → Room_is (next_room large small left) size one
room_is left large small size one (inl h) =
    let e : next_room large small left ≡ Cluster (min left large) =
    cond-true {A = Room} (nat_le 208 left) _ _ (le-leb 208 left h.0) in
    record {
      size_is = ap size_of e ∙ sym h.1;
      one_is =
          λ rooms. ap (λ (r : Room). count_by is_cluster (r ∷ rooms)) e
          ∙ omega (arith, one_cluster (min left large) rooms, h.2);
    }
room_is left large small size one (inr h) =
    let e : next_room large small left ≡ Plain (min left small) =
    cond-false {A = Room} (nat_le 208 left) _ _ (lt-leb 208 left h.0) in
    record {
      size_is = ap size_of e ∙ sym h.1;
      one_is =
          λ rooms. ap (λ (r : Room). count_by is_cluster (r ∷ rooms)) e
          ∙ omega (arith, no_cluster (min left small) rooms, h.2);
    }

pub next_is : (n mtu c m left large small size one met : ℕ) → 0 < large → 0 < small → 0 < left → left ≤ n
    → Kind left large small size one → Counts n mtu c m
    → met ≡ (28 + (n - left) + size - 21) / c - ((28 + (n - left) - 20) / c - 1)
    → Next n mtu left large small size one met
next_is n mtu c m left large small size one met l s some le kind counts is =
    let room : Room = next_room large small left in
    let r = room_is left large small size one kind in
    let e : filled left large small left ≡ room ∷ rest_rooms (left - size) =
    rooms_step large small left l s some ∙ ap (λ (k : ℕ). room ∷ rest_rooms (left - k)) r.size_is in
    let pos : 0 < size = omega (arith, kind) in
    let top : size ≤ left = omega (arith, kind) in
    let at : ℕ = 28 + (n - left) in
    let rest : List Room = rest_rooms (left - size) in
    let parts : List Part = later_parts n mtu in
    let on : over (room ∷ rest) at parts ≡ sum_by (here at (at + size)) parts + over rest (at + size) parts =
    over_next room rest at parts ∙ ap (λ (k : ℕ). sum_by (here at (at + k)) parts + over rest (at + k) parts) r.size_is
    in
    let to : over rest (at + size) parts ≡ over rest (28 + (n - (left - size))) parts =
    let k : at + size ≡ 28 + (n - (left - size)) = omega arith in ap (λ (j : ℕ). over rest j parts) k in
    record {
      some = pos;
      most = top;
      mbufs =
          ap (λ (rooms : List Room). length rooms + over rooms at parts) e
          ∙ omega (arith, on, to, counts.counts at (at + size) (omega arith) (omega arith), is);
      clusters = ap (count_by is_cluster) e ∙ r.one_is rest;
    }

pub filled_none : (large small : ℕ) → filled 0 large small 0 ≡ []
unfolding filled
filled_none large small = refl

-- the mbufs of a short datagram
pub short_is : (n mtu c m met : ℕ) → n ≤ 72 → Counts n mtu c m → met ≡ (28 + n - 21) / c - ((0 - 20) / c - 1)
    → 1 + m + met ≡ (need n mtu).mbufs
short_is n mtu c m met h counts is =
    let b : ℕ = 0 + size_of (Plain (28 + n)) in
    let same : b ≡ 28 + n = omega arith in
    let is' : met ≡ (b - 21) / c - ((0 - 20) / c - 1) =
    is ∙ ap (λ (k : ℕ). (k - 21) / c - ((0 - 20) / c - 1)) (sym same) in
    sym (need_is n mtu m (Plain (28 + n) ∷ []) (sent_short n h) counts.parts
    ∙ omega (
      arith,
      over_next (Plain (28 + n)) [] 0 (later_parts n mtu),
      over_none b (later_parts n mtu),
      counts.counts 0 b (omega arith) (omega arith),
      is',
    ))

pub long_is : (n mtu c m met : ℕ) → 72 < n → Counts n mtu c m → met ≡ (28 - 21) / c - ((0 - 20) / c - 1)
    → 1 + m + met + (length (filled n 1992 100 n) + over (filled n 1992 100 n) (28 + (n - n)) (later_parts n mtu))
    ≡ (need n mtu).mbufs
long_is n mtu c m met h counts is =
    let to : over (filled n 1992 100 n) (28 + (n - n)) (later_parts n mtu)
    ≡ over (filled n 1992 100 n) 28 (later_parts n mtu) =
    let k : 28 + (n - n) ≡ 28 = omega arith in ap (λ (j : ℕ). over (filled n 1992 100 n) j (later_parts n mtu)) k in
    sym (need_is n mtu m (Plain 28 ∷ filled n 1992 100 n) (sent_long n h) counts.parts
    ∙ omega (
      arith,
      to,
      over_next (Plain 28) (filled n 1992 100 n) 0 (later_parts n mtu),
      counts.counts 0 28 (omega arith) (omega arith),
      is,
    ))

pub short_clusters : (n mtu : ℕ) → n ≤ 72 → (need n mtu).clusters ≡ 0
short_clusters n mtu h = ap (count_by is_cluster) (sent_short n h)

pub long_clusters : (n mtu : ℕ) → 72 < n → count_by is_cluster (filled n 1992 100 n) ≡ (need n mtu).clusters
long_clusters n mtu h = sym (ap (count_by is_cluster) (sent_long n h))

pub need_whole : (n : ℕ) → n ≤ 65507 → (need n 65535).mbufs ≡ length (sent n)
need_whole n h =
    need_is n 65535 0 (sent n) refl (sym (ap (λ (xs : List Part). length xs) (cut_short n 65535 (omega arith))))
    ∙ omega (arith, ap (over (sent n) 0) (cut_short n 65535 (omega arith)))

-- a short datagram that isn't cut takes one mbuf
pub need_one : (n mtu : ℕ) → n ≤ 72 → n + 28 ≤ mtu → need n mtu ≡ record { mbufs = 1; clusters = 0 }
need_one n mtu short fits =
    let later : later_parts n mtu ≡ [] = cut_short n mtu fits in
    λ i. record {
      mbufs = length (sent_short n short i) + sum_by (need_of_part (sent_short n short i)) (later i);
      clusters = count_by is_cluster (sent_short n short i);
    }
