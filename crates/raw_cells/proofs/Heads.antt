-- The heads that are encoded in the block.
use Rattle.std.proofs.Common.{◌≡◌, ℕ, zero, suc, ◌+◌, ◌*◌, ◌/◌, ◌%◌, ◌==◌, ◌≤◌, ◌<◌, ◌⊎◌, inl, inr, Bool, true, false, if◌then◌else◌, Some, None, is_some, List, [], length, take, get_or, set, replicate, refl, sym, ap, ◌∙◌, subst, arith, lit≤, length-set, get_or-set_same, get_or-set_other, length-take-le}
use Rattle.std.proofs.Math.Dec.{ltb}
use Rattle.std.proofs.lemmas.Bool.{ltb-true, ltb-false}
use Rattle.std.proofs.lemmas.List.{length-replicate, get_or-replicate, get_or-take}
use Rattle.std.proofs.lemmas.List.FromFn.{length-map-range_with_len, get_or-map-range_with_len, fill_by_all}
use Rattle.raw_cells.specs.Over.{over}
use Rattle.raw_cells.specs.Cells.{zero_head, head_size}
use Rattle.raw_cells.specs.Inside.Layout.{little_u16_at, little_u32_at, link_of, packet_header_in, cluster_in, head_by, cell_head_in, heads_in}
use Rattle.raw_cells.specs.declared.head.Head.{Head}
use Rattle.raw_cells.specs.declared.head.PacketHeader.{PacketHeader}
use Rattle.raw_cells.proofs.Over.{over_below, over_above, over_in}

pub length-heads : (n : ℕ) (bs : List ℕ) → length (heads_in n bs) ≡ n
length-heads n bs = length-map-range_with_len (λ i. cell_head_in bs (128 * i)) 0 n

pub head_at : (n : ℕ) (bs : List ℕ) (i : ℕ) (d : Head) → i < n → get_or (heads_in n bs) i d ≡ cell_head_in bs (128 * i)
head_at n bs i d h = get_or-map-range_with_len (λ j. cell_head_in bs (128 * j)) 0 n i i d h (omega arith)

at_most : (a b : Bool) → (if a then 32 else (if b then 28 else 20)) ≤ 32
at_most true b = lit≤ tt
at_most false true = lit≤ tt
at_most false false = lit≤ tt

pub head_size_le : (h : Head) → head_size h ≤ 32
head_size_le h = at_most (is_some h.cluster) (is_some h.packet)

at_least : (a b : Bool) → 20 ≤ (if a then (if b then 20 else 28) else 32)
at_least true true = lit≤ tt
at_least true false = lit≤ tt
at_least false b = lit≤ tt

-- the size of a head, by the tests of its flags
by_flags : (a b : Bool) (x : ℕ) (p : PacketHeader)
    → ◌≡◌ {A = ℕ} (if is_some (if a then None else Some x) then 32
    else (if is_some (if b then None else Some p) then 28 else 20)) (if a then (if b then 20 else 28) else 32)
by_flags true true x p = refl
by_flags true false x p = refl
by_flags false b x p = refl

module _ (xs ys : List ℕ) (o p n : ℕ) (h : (k : ℕ) → k < n → get_or xs (o + k) 0 ≡ get_or ys (p + k) 0) where
  same_byte : (j m : ℕ) → j + m < n → get_or xs (o + j + m) 0 ≡ get_or ys (p + j + m) 0
  same_byte j m lt =
      let e : o + (j + m) ≡ o + j + m = omega arith in let f : p + (j + m) ≡ p + j + m = omega arith in
      sym (ap (λ k. get_or xs k 0) e) ∙ h (j + m) lt ∙ ap (λ k. get_or ys k 0) f

  same_first : (j : ℕ) → j < n → get_or xs (o + j) 0 ≡ get_or ys (p + j) 0
  same_first j lt = h j lt

  same_u16 : (j : ℕ) → j + 2 ≤ n → little_u16_at xs (o + j) ≡ little_u16_at ys (p + j)
  same_u16 j le =
      let a = same_first j (omega arith) in let b = same_byte j 1 (omega arith) in
      λ t. a t + b t * 0x100

  same_u32 : (j : ℕ) → j + 4 ≤ n → little_u32_at xs (o + j) ≡ little_u32_at ys (p + j)
  same_u32 j le =
      let a = same_first j (omega arith) in let b = same_byte j 1 (omega arith) in
      let c = same_byte j 2 (omega arith) in let d = same_byte j 3 (omega arith) in
      λ t. a t + b t * 0x100 + c t * 0x10000 + d t * 0x1000000

if_else : {A : Type 0} (b : Bool) (z x y : A) → (b ≡ false → x ≡ y) → (if b then z else x) ≡ (if b then z else y)
if_else true z x y h = refl
if_else false z x y h = h refl

-- a head with a packet header has at least 28 bytes, one with a cluster at least 32
size_28 : (a b : Bool) → b ≡ false → 28 ≤ (if a then (if b then 20 else 28) else 32)
size_28 true b e = rw e (lit≤ tt)
size_28 false b e = lit≤ tt

size_32 : (a b : Bool) → a ≡ false → 32 ≤ (if a then (if b then 20 else 28) else 32)
size_32 a b e = rw e (lit≤ tt)

-- two heads are equal if their own bytes are equal
pub same_head : (xs ys : List ℕ) (o p : ℕ)
    → ((k : ℕ) → k < head_size (cell_head_in xs o) → get_or xs (o + k) 0 ≡ get_or ys (p + k) 0)
    → cell_head_in xs o ≡ cell_head_in ys p
unfolding head_by
same_head xs ys o p h =
    let f : ℕ = little_u16_at xs (o + 18) in
    let a : Bool = f % 2 == 0 in let b : Bool = f / 2 % 2 == 0 in
    let n : ℕ = if a then (if b then 20 else 28) else 32 in
    let low : 20 ≤ n = at_least a b in
    let size : head_size (cell_head_in xs o) ≡ n =
    by_flags a b (little_u32_at xs (o + 28))
    (record { len = little_u32_at xs (o + 20); arrival = little_u32_at xs (o + 20 + 4) }) in
    let h' : (k : ℕ) → k < n → get_or xs (o + k) 0 ≡ get_or ys (p + k) 0 = λ k lt. h k (omega (arith, lt, size)) in
    let same : (j : ℕ) → j + 4 ≤ n → little_u32_at xs (o + j) ≡ little_u32_at ys (p + j) = same_u32 xs ys o p n h' in
    let flags : f ≡ little_u16_at ys (p + 18) = same_u16 xs ys o p n h' 18 (omega (arith, low)) in
    let e0 : little_u32_at xs (o + 0) ≡ little_u32_at ys (p + 0) = same 0 (omega (arith, low)) in
    let e1 : little_u32_at xs (o + 4) ≡ little_u32_at ys (p + 4) = same 4 (omega (arith, low)) in
    let e2 : little_u32_at xs (o + 8) ≡ little_u32_at ys (p + 8) = same 8 (omega (arith, low)) in
    let e3 : little_u32_at xs (o + 12) ≡ little_u32_at ys (p + 12) = same 12 (omega (arith, low)) in
    let e4 : little_u16_at xs (o + 16) ≡ little_u16_at ys (p + 16) = same_u16 xs ys o p n h' 16 (omega (arith, low)) in
    let e5 : packet_header_in xs (o + 20) f ≡ packet_header_in ys (p + 20) f = if_else b None _ _ (λ e.
    let long = size_28 a b e in
    let total : little_u32_at xs (o + 20) ≡ little_u32_at ys (p + 20) = same 20 (omega (arith, long)) in
    let ox : o + 24 ≡ o + 20 + 4 = omega arith in let py : p + 24 ≡ p + 20 + 4 = omega arith in
    let arrival : little_u32_at xs (o + 20 + 4) ≡ little_u32_at ys (p + 20 + 4) =
    sym (ap (little_u32_at xs) ox) ∙ same 24 (omega (arith, long)) ∙ ap (little_u32_at ys) py in
    λ t. Some (record { len = total t; arrival = arrival t })) in
    let e6 : cluster_in xs (o + 28) f ≡ cluster_in ys (p + 28) f =
    if_else a None _ _ (λ e. ap Some (same 28 (omega (arith, size_32 a b e)))) in
    (λ t. record {
      next = link_of (e0 t);
      next_packet = link_of (e1 t);
      len = e2 t;
      start = e3 t;
      kind = e4 t;
      packet = e5 t;
      cluster = e6 t;
    })
    ∙ ap (λ g. head_by ys p g) flags

-- a write outside all heads leaves them unchanged
pub heads_kept : (n : ℕ) (bs : List ℕ) (at : ℕ) (ws : List ℕ) → at + length ws ≤ length bs
    → ((i k : ℕ) → i < n → k < head_size (cell_head_in bs (128 * i))
    → (128 * i + k < at) ⊎ (at + length ws ≤ 128 * i + k))
    → heads_in n (over bs at ws) ≡ heads_in n bs
heads_kept n bs at ws fits apart =
    sym (fill_by_all (λ i. cell_head_in (over bs at ws) (128 * i)) (heads_in n bs) n zero_head (length-heads n bs)
    (λ i lt. head_at n bs i zero_head lt ∙ same_head bs (over bs at ws) (128 * i) (128 * i) (λ k less.
    elim (apart i k lt less) [
      | inl h ↦ sym (over_below bs at ws fits (128 * i + k) 0 h)
      | inr h ↦ sym (over_above bs at ws fits (128 * i + k) 0 h)
    ])))

zero_at : (n k : ℕ) → let z : ℕ = 0 in get_or (replicate n z) k z ≡ z
zero_at zero k = refl
zero_at (suc n) zero = refl
zero_at (suc n) (suc k) = zero_at n k

none_in : (o : ℕ) → cell_head_in [] o ≡ zero_head
unfolding head_by
none_in o = refl

-- the heads of a new block
pub heads_new : (n m : ℕ) → heads_in n (replicate m 0) ≡ replicate n zero_head
heads_new n m =
    sym (fill_by_all (λ i. cell_head_in (replicate m 0) (128 * i)) (replicate n zero_head) n zero_head
    (length-replicate n zero_head)
    (λ i lt. get_or-replicate n i zero_head zero_head lt ∙ sym (none_in (128 * i))
    ∙ same_head [] (replicate m 0) (128 * i) (128 * i) (λ k less. sym (zero_at m (128 * i + k)))))

-- a < b or b ≤ a, by the result of the test
tested : (a b : ℕ) (is_less : Bool) → ltb a b ≡ is_less → (a < b) ⊎ (b ≤ a)
tested a b true is = inl (ltb-true a b is)
tested a b false is = inr (ltb-false a b is)

pub less_or_at_least : (a b : ℕ) → (a < b) ⊎ (b ≤ a)
less_or_at_least a b = tested a b (ltb a b) refl

-- a head doesn't overlap the data area of any mbuf
pub mbufs_apart : (bs : List ℕ) (n i j k s m : ℕ) → j < n → k < head_size (cell_head_in bs (128 * j))
    → head_size (cell_head_in bs (128 * i)) ≤ s → s + m ≤ 128
    → (128 * j + k < 128 * i + s) ⊎ (128 * i + s + m ≤ 128 * j + k)
mbufs_apart bs n i j k s m lt less past fits =
    let small = head_size_le (cell_head_in bs (128 * j)) in
    elim (less_or_at_least i j) [
      | inl above ↦ inr (omega arith)
      | inr le ↦ elim (less_or_at_least j i) [
        | inl below ↦ inl (omega (arith, small))
        | inr ge ↦ let same : j ≡ i = omega arith in
            let here : k < head_size (cell_head_in bs (128 * i)) =
            subst (λ (l : ℕ). k < head_size (cell_head_in bs (128 * l))) same less in
            inl (omega arith)
      ]
    ]

-- a new head is written over the old one
pub head_written : (bs enc : List ℕ) (n i : ℕ) (h : Head) → i < n → 128 * n ≤ length bs → length enc ≡ 32
    → cell_head_in enc 0 ≡ h
    → heads_in n (over bs (128 * i) (take (head_size h) enc)) ≡ set (heads_in n bs) i h
head_written bs enc n i h lt room long is =
    let b = take (head_size h) enc in let o = 128 * i in
    let size : length b ≡ head_size h = length-take-le (head_size h) enc (omega (arith, head_size_le h)) in
    let fits : o + length b ≤ length bs = omega (arith, head_size_le h) in
    let xs = set (heads_in n bs) i h in
    let count = length-heads n bs in
    let here : cell_head_in (over bs o b) o ≡ h = sym (same_head enc (over bs o b) 0 o (λ k less.
    let less' : k < head_size h = subst (λ g. k < head_size g) is less in
    let zero_k : 0 + k ≡ k = omega arith in
    ap (λ j. get_or enc j 0) zero_k
    ∙ sym (over_in bs o b fits k 0 (omega arith) ∙ get_or-take (head_size h) enc k 0 less'))) ∙ is in
    let there : (j : ℕ) → (j < i) ⊎ (i < j) → cell_head_in bs (128 * j) ≡ cell_head_in (over bs o b) (128 * j) =
    λ j apart.
    same_head bs (over bs o b) (128 * j) (128 * j) (λ k less.
    let small = head_size_le (cell_head_in bs (128 * j)) in
    elim apart [
      | inl below ↦ sym (over_below bs o b fits (128 * j + k) 0 (omega (arith, small)))
      | inr above ↦ sym (over_above bs o b fits (128 * j + k) 0 (omega (arith, size, head_size_le h)))
    ]) in
    sym (fill_by_all (λ j. cell_head_in (over bs o b) (128 * j)) xs n zero_head (length-set (heads_in n bs) i h ∙ count)
    (λ j less. elim (less_or_at_least j i) [
      | inl below ↦ get_or-set_other (heads_in n bs) i j h zero_head (λ e. omega arith) ∙ head_at n bs j zero_head less
          ∙ there j (inl below)
      | inr ge ↦ elim (less_or_at_least i j) [
        | inl above ↦ get_or-set_other (heads_in n bs) i j h zero_head (λ e. omega arith)
            ∙ head_at n bs j zero_head less ∙ there j (inr above)
        | inr le ↦ let same : i ≡ j = omega arith in
            subst (λ (l : ℕ). get_or xs l zero_head ≡ cell_head_in (over bs o b) (128 * l)) same
            (get_or-set_same (heads_in n bs) i h zero_head (omega arith) ∙ sym here)
      ]
    ]))
