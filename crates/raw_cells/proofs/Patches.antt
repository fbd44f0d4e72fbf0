-- Writing a few bytes of a head in place.
use Rattle.std.proofs.Common.{◌≡◌, ℕ, ◌+◌, ◌-◌, ◌*◌, ◌/◌, ◌%◌, ◌==◌, ◌≤◌, ◌<◌, ◌⊎◌, inl, inr, Bool, true, false, if◌then◌else◌, Option, Some, None, is_some, option_map, List, length, take, drop, get_or, refl, sym, ap, ◌∙◌, subst, arith, lit≤, ext_get_or, length-take-le, length-drop, take_all, get_or-drop}
use Rattle.std.specs.Prelude.{IsSome}
use Rattle.std.proofs.lemmas.List.{get_or-take}
use Rattle.std.proofs.lemmas.Bool.{eq-eqb, false≢true}
use Rattle.raw_cells.specs.Over.{over}
use Rattle.raw_cells.specs.Cells.{Cells, SetsCellHead, IsChange, IsSized, zero_head, cell_head, changed, head_size, with_arrival, with_head, with_packet_len}
use Rattle.raw_cells.specs.Inside.Layout.{little_u16_at, little_u32_at, link_of, head_by, cell_head_in, cells_of, IsRegion}
use Rattle.raw_cells.specs.declared.head.Change.{Change}
use Rattle.raw_cells.specs.declared.head.Head.{Head}
use Rattle.raw_cells.specs.declared.head.PacketHeader.{PacketHeader}
use Rattle.raw_cells.specs.declared.region.Region.TheInside.{Inside}
use Rattle.raw_cells.proofs.Over.{over_below, over_above, over_in, length_over}
use Rattle.raw_cells.proofs.Heads.{length-heads, head_at, head_size_le, less_or_at_least, head_written}
use Rattle.raw_cells.proofs.Parts.{region_sized}
use Rattle.raw_cells.proofs.Laws.{sized_after_head}

-- the 32 bytes from offset o on, with w written over them from index k on
abbrev pub patched : List ℕ → ℕ → ℕ → List ℕ → List ℕ
patched bs o k w = over (take 32 (drop o bs)) k w

module _ (bs : List ℕ) (o k : ℕ) (w : List ℕ) (room : o + 32 ≤ length bs) (fits : k + length w ≤ 32) where
  front_long : length (take 32 (drop o bs)) ≡ 32
  front_long = length-take-le 32 (drop o bs) (omega (arith, length-drop o bs))

  pub patched_long : length (patched bs o k w) ≡ 32
  patched_long = length_over (take 32 (drop o bs)) k w (omega (arith, front_long)) ∙ front_long

  patched_other : (m : ℕ) → m < 32 → (m < k) ⊎ (k + length w ≤ m) → get_or (patched bs o k w) m 0 ≡ get_or bs (o + m) 0
  patched_other m lt apart =
      elim apart [
        | inl below ↦ over_below (take 32 (drop o bs)) k w (omega (arith, front_long)) m 0 below
        | inr above ↦ over_above (take 32 (drop o bs)) k w (omega (arith, front_long)) m 0 above
      ]
      ∙ get_or-take 32 (drop o bs) m 0 lt ∙ get_or-drop o bs m 0

  patched_in : (m : ℕ) → m < length w → get_or (patched bs o k w) (k + m) 0 ≡ get_or w m 0
  patched_in m lt = over_in (take 32 (drop o bs)) k w (omega (arith, front_long)) m 0 lt

  other_byte : (j q n : ℕ) → j + n ≤ 32 → q < n → (j + n ≤ k) ⊎ (k + length w ≤ j)
      → get_or (patched bs o k w) (j + q) 0 ≡ get_or bs (o + j + q) 0
  other_byte j q n within lt apart =
      let same : o + (j + q) ≡ o + j + q = omega arith in
      patched_other (j + q) (omega arith) (elim apart [ inl below ↦ inl (omega arith) | inr above ↦ inr (omega arith) ])
      ∙ ap (λ x. get_or bs x 0) same

  first_byte : (j n : ℕ) → j + n ≤ 32 → 0 < n → (j + n ≤ k) ⊎ (k + length w ≤ j)
      → get_or (patched bs o k w) j 0 ≡ get_or bs (o + j) 0
  first_byte j n within lt apart =
      patched_other j (omega arith) (elim apart [ inl below ↦ inl (omega arith) | inr above ↦ inr (omega arith) ])

  pub other_u16 : (j : ℕ) → j + 2 ≤ 32 → (j + 2 ≤ k) ⊎ (k + length w ≤ j)
      → little_u16_at (patched bs o k w) j ≡ little_u16_at bs (o + j)
  other_u16 j within apart =
      let a = first_byte j 2 within (omega arith) apart in let b = other_byte j 1 2 within (omega arith) apart in
      λ t. a t + b t * 0x100

  pub other_u32 : (j : ℕ) → j + 4 ≤ 32 → (j + 4 ≤ k) ⊎ (k + length w ≤ j)
      → little_u32_at (patched bs o k w) j ≡ little_u32_at bs (o + j)
  other_u32 j within apart =
      let a = first_byte j 4 within (omega arith) apart in let b = other_byte j 1 4 within (omega arith) apart in
      let c = other_byte j 2 4 within (omega arith) apart in let d = other_byte j 3 4 within (omega arith) apart in
      λ t. a t + b t * 0x100 + c t * 0x10000 + d t * 0x1000000

  in_byte : (p q m : ℕ) → p ≡ k + q → q < length w → m ≡ p → get_or (patched bs o k w) m 0 ≡ get_or w q 0
  in_byte p q m e lt f = ap (λ x. get_or (patched bs o k w) x 0) (f ∙ e) ∙ patched_in q lt

  pub in_u16 : (p : ℕ) → p ≡ k → length w ≡ 2 → little_u16_at (patched bs o k w) p ≡ little_u16_at w 0
  in_u16 p e long =
      let a = in_byte p 0 p (omega arith) (omega arith) refl in
      let b = in_byte (p + 1) 1 (p + 1) (omega arith) (omega arith) refl in
      λ t. a t + b t * 0x100

  pub in_u32 : (p q : ℕ) → p ≡ k + q → q + 4 ≤ length w → little_u32_at (patched bs o k w) p ≡ little_u32_at w q
  in_u32 p q e long =
      let a = in_byte p q p (omega arith) (omega arith) refl in
      let b = in_byte (p + 1) (q + 1) (p + 1) (omega arith) (omega arith) refl in
      let c = in_byte (p + 2) (q + 2) (p + 2) (omega arith) (omega arith) refl in
      let d = in_byte (p + 3) (q + 3) (p + 3) (omega arith) (omega arith) refl in
      λ t. a t + b t * 0x100 + c t * 0x10000 + d t * 0x1000000

  -- writing only w has the same result as writing the first n patched bytes
  module _ (n : ℕ) (least : k + length w ≤ n) (most : n ≤ 32) where
    few_long : length (take n (patched bs o k w)) ≡ n
    few_long = length-take-le n (patched bs o k w) (omega (arith, patched_long))

    few_at : (m : ℕ) → m < n → get_or (over bs o (take n (patched bs o k w))) (o + m) 0 ≡ get_or (patched bs o k w) m 0
    few_at m lt =
        over_in bs o (take n (patched bs o k w)) (omega (arith, few_long)) m 0 (omega (arith, few_long))
        ∙ get_or-take n (patched bs o k w) m 0 lt

    same_there : (m : ℕ) → get_or (over bs (o + k) w) (o + m) 0
        ≡ get_or (over bs o (take n (patched bs o k w))) (o + m) 0
    same_there m = elim (less_or_at_least m n) [
      | inr past ↦
          over_above bs (o + k) w (omega arith) (o + m) 0 (omega arith)
          ∙ sym (over_above bs o (take n (patched bs o k w)) (omega (arith, few_long)) (o + m) 0
          (omega (arith, few_long)))
      | inl within ↦ elim (less_or_at_least m k) [
        | inl below ↦ over_below bs (o + k) w (omega arith) (o + m) 0 (omega arith)
            ∙ sym (few_at m within ∙ patched_other m (omega arith) (inl below))
        | inr from ↦ elim (less_or_at_least m (k + length w)) [
          | inr above ↦ over_above bs (o + k) w (omega arith) (o + m) 0 (omega arith)
              ∙ sym (few_at m within ∙ patched_other m (omega arith) (inr above))
          | inl inside ↦
              let there : o + m ≡ o + k + (m - k) = omega arith in
              let here : m ≡ k + (m - k) = omega arith in
              ap (λ x. get_or (over bs (o + k) w) x 0) there
              ∙ over_in bs (o + k) w (omega arith) (m - k) 0 (omega arith)
              ∙ sym (few_at m within ∙ ap (λ x. get_or (patched bs o k w) x 0) here ∙ patched_in (m - k) (omega arith))
        ]
      ]
    ]

    pub patch_over : over bs (o + k) w ≡ over bs o (take n (patched bs o k w))
    patch_over =
        ext_get_or 0 (over bs (o + k) w) (over bs o (take n (patched bs o k w)))
        (length_over bs (o + k) w (omega arith)
        ∙ sym (length_over bs o (take n (patched bs o k w)) (omega (arith, few_long))))
        (λ j lt. elim (less_or_at_least j o) [
          | inl below ↦ over_below bs (o + k) w (omega arith) j 0 (omega arith)
              ∙ sym (over_below bs o (take n (patched bs o k w)) (omega (arith, few_long)) j 0 below)
          | inr from ↦
              let there : o + (j - o) ≡ j = omega arith in
              subst (λ x. get_or (over bs (o + k) w) x 0 ≡ get_or (over bs o (take n (patched bs o k w))) x 0) there
              (same_there (j - o))
        ])

-- ---- the head that is read from the patched bytes
head_from : (xs : List ℕ) (next next_packet : Option ℕ) (len start kind flags total arrival cluster : ℕ)
    → link_of (little_u32_at xs 0) ≡ next → link_of (little_u32_at xs 4) ≡ next_packet → little_u32_at xs 8 ≡ len
    → little_u32_at xs 12 ≡ start
    → little_u16_at xs 16 ≡ kind → little_u16_at xs 18 ≡ flags
    → little_u32_at xs 20 ≡ total → little_u32_at xs 24 ≡ arrival → little_u32_at xs 28 ≡ cluster
    → cell_head_in xs 0 ≡ record {
      next = next;
      next_packet = next_packet;
      len = len;
      start = start;
      kind = kind;
      packet = if flags / 2 % 2 == 0 then None else Some (record { len = total; arrival = arrival });
      cluster = if flags % 2 == 0 then None else Some cluster;
    }
unfolding head_by
head_from xs next next_packet len start kind flags total arrival cluster e0 e1 e2 e3 e4 f e5 e6 e7 = λ t. record {
  next = e0 t;
  next_packet = e1 t;
  len = e2 t;
  start = e3 t;
  kind = e4 t;
  packet = if f t / 2 % 2 == 0 then None else Some (record { len = e5 t; arrival = e6 t });
  cluster = if f t % 2 == 0 then None else Some (e7 t);
}

module _ (bs : List ℕ) (o : ℕ) (w : List ℕ) (room : o + 32 ≤ length bs) where
  later : (k : ℕ) → k + length w ≤ 32 → k + length w ≤ 24 ⊎ 28 ≤ k
      → little_u32_at (patched bs o k w) 24 ≡ little_u32_at bs (o + 20 + 4)
  later k fits apart =
      let there : o + 24 ≡ o + 20 + 4 = omega arith in
      other_u32 bs o k w room fits 24 (omega arith)
      (elim apart [ inl below ↦ inr (omega arith) | inr above ↦ inl (omega arith) ]) ∙ ap (little_u32_at bs) there

  pub next_set : (next : Option ℕ) → length w ≡ 4 → link_of (little_u32_at w 0) ≡ next
      → cell_head_in (patched bs o 0 w) 0 ≡ record (cell_head_in bs o) { next = next }
  unfolding head_by
  next_set next long is =
      let fits : 0 + length w ≤ 32 = omega arith in
      let at = other_u32 bs o 0 w room fits in
      head_from (patched bs o 0 w) next _ _ _ _ _ _ _ _
      (ap link_of (in_u32 bs o 0 w room fits 0 0 refl (omega arith)) ∙ is)
      (ap link_of (at 4 (omega arith) (inr (omega arith))))
      (at 8 (omega arith) (inr (omega arith))) (at 12 (omega arith) (inr (omega arith)))
      (other_u16 bs o 0 w room fits 16 (omega arith) (inr (omega arith)))
      (other_u16 bs o 0 w room fits 18 (omega arith) (inr (omega arith)))
      (at 20 (omega arith) (inr (omega arith))) (later 0 fits (inl (omega arith)))
      (at 28 (omega arith) (inr (omega arith)))

  pub next_packet_set : (next : Option ℕ) → length w ≡ 4 → link_of (little_u32_at w 0) ≡ next
      → cell_head_in (patched bs o 4 w) 0 ≡ record (cell_head_in bs o) { next_packet = next }
  unfolding head_by
  next_packet_set next long is =
      let fits : 4 + length w ≤ 32 = omega arith in
      let at = other_u32 bs o 4 w room fits in
      head_from (patched bs o 4 w) _ next _ _ _ _ _ _ _
      (ap link_of (at 0 (omega arith) (inl (omega arith))))
      (ap link_of (in_u32 bs o 4 w room fits 4 0 refl (omega arith)) ∙ is)
      (at 8 (omega arith) (inr (omega arith))) (at 12 (omega arith) (inr (omega arith)))
      (other_u16 bs o 4 w room fits 16 (omega arith) (inr (omega arith)))
      (other_u16 bs o 4 w room fits 18 (omega arith) (inr (omega arith)))
      (at 20 (omega arith) (inr (omega arith))) (later 4 fits (inl (omega arith)))
      (at 28 (omega arith) (inr (omega arith)))

  pub data_set : (len start : ℕ) → length w ≡ 8 → little_u32_at w 0 ≡ len → little_u32_at w 4 ≡ start
      → cell_head_in (patched bs o 8 w) 0 ≡ record (cell_head_in bs o) { len = len; start = start }
  unfolding head_by
  data_set len start long is_len is_start =
      let fits : 8 + length w ≤ 32 = omega arith in
      let at = other_u32 bs o 8 w room fits in
      head_from (patched bs o 8 w) _ _ len start _ _ _ _ _
      (ap link_of (at 0 (omega arith) (inl (omega arith)))) (ap link_of (at 4 (omega arith) (inl (omega arith))))
      (in_u32 bs o 8 w room fits 8 0 refl (omega arith) ∙ is_len)
      (in_u32 bs o 8 w room fits 12 4 refl (omega arith) ∙ is_start)
      (other_u16 bs o 8 w room fits 16 (omega arith) (inr (omega arith)))
      (other_u16 bs o 8 w room fits 18 (omega arith) (inr (omega arith)))
      (at 20 (omega arith) (inr (omega arith))) (later 8 fits (inl (omega arith)))
      (at 28 (omega arith) (inr (omega arith)))

  mapped : (f : PacketHeader → PacketHeader) (b : Bool) (p : PacketHeader)
      → (if b then None else Some (f p)) ≡ option_map f (if b then None else Some p)
  mapped f true p = refl
  mapped f false p = refl

  pub packet_len_set : (n : ℕ) → length w ≡ 4 → little_u32_at w 0 ≡ n
      → cell_head_in (patched bs o 20 w) 0 ≡ with_packet_len (cell_head_in bs o) n
  unfolding head_by
  packet_len_set n long is =
      let fits : 20 + length w ≤ 32 = omega arith in
      let at = other_u32 bs o 20 w room fits in
      head_from (patched bs o 20 w) _ _ _ _ _ _ n _ _
      (ap link_of (at 0 (omega arith) (inl (omega arith)))) (ap link_of (at 4 (omega arith) (inl (omega arith))))
      (at 8 (omega arith) (inl (omega arith))) (at 12 (omega arith) (inl (omega arith)))
      (other_u16 bs o 20 w room fits 16 (omega arith) (inl (omega arith)))
      (other_u16 bs o 20 w room fits 18 (omega arith) (inl (omega arith)))
      (in_u32 bs o 20 w room fits 20 0 refl (omega arith) ∙ is) (later 20 fits (inl (omega arith)))
      (at 28 (omega arith) (inr (omega arith)))
      ∙ ap (λ (p : Option PacketHeader). record (cell_head_in bs o) { packet = p })
      (mapped (λ p. record p { len = n }) (little_u16_at bs (o + 18) / 2 % 2 == 0)
      (record { len = little_u32_at bs (o + 20); arrival = little_u32_at bs (o + 20 + 4) }))

  pub arrival_set : (n : ℕ) → length w ≡ 4 → little_u32_at w 0 ≡ n
      → cell_head_in (patched bs o 24 w) 0 ≡ with_arrival (cell_head_in bs o) n
  unfolding head_by
  arrival_set n long is =
      let fits : 24 + length w ≤ 32 = omega arith in
      let at = other_u32 bs o 24 w room fits in
      head_from (patched bs o 24 w) _ _ _ _ _ _ _ n _
      (ap link_of (at 0 (omega arith) (inl (omega arith)))) (ap link_of (at 4 (omega arith) (inl (omega arith))))
      (at 8 (omega arith) (inl (omega arith))) (at 12 (omega arith) (inl (omega arith)))
      (other_u16 bs o 24 w room fits 16 (omega arith) (inl (omega arith)))
      (other_u16 bs o 24 w room fits 18 (omega arith) (inl (omega arith)))
      (at 20 (omega arith) (inl (omega arith))) (in_u32 bs o 24 w room fits 24 0 refl (omega arith) ∙ is)
      (at 28 (omega arith) (inr (omega arith)))
      ∙ ap (λ (p : Option PacketHeader). record (cell_head_in bs o) { packet = p })
      (mapped (λ p. record p { arrival = n }) (little_u16_at bs (o + 18) / 2 % 2 == 0)
      (record { len = little_u32_at bs (o + 20); arrival = little_u32_at bs (o + 20 + 4) }))

  pub packet_dropped : length w ≡ 2 → little_u16_at w 0 / 2 % 2 ≡ 0
      → little_u16_at w 0 % 2 ≡ little_u16_at bs (o + 18) % 2
      → cell_head_in (patched bs o 18 w) 0 ≡ record (cell_head_in bs o) { packet = None }
  unfolding head_by
  packet_dropped long none same =
      let fits : 18 + length w ≤ 32 = omega arith in
      let at = other_u32 bs o 18 w room fits in
      head_from (patched bs o 18 w) _ _ _ _ _ (little_u16_at w 0) _ _ _
      (ap link_of (at 0 (omega arith) (inl (omega arith)))) (ap link_of (at 4 (omega arith) (inl (omega arith))))
      (at 8 (omega arith) (inl (omega arith))) (at 12 (omega arith) (inl (omega arith)))
      (other_u16 bs o 18 w room fits 16 (omega arith) (inl (omega arith))) (in_u16 bs o 18 w room fits 18 refl long)
      (at 20 (omega arith) (inr (omega arith))) (later 18 fits (inl (omega arith)))
      (at 28 (omega arith) (inr (omega arith)))
      ∙ (λ t. record (cell_head_in bs o) {
        packet =
            if eq-eqb (little_u16_at w 0 / 2 % 2) 0 none t then None
            else Some (record { len = little_u32_at bs (o + 20); arrival = little_u32_at bs (o + 20 + 4) });
        cluster = if same t == 0 then None else Some (little_u32_at bs (o + 28));
      })

-- ---- a field of a region's head is set
least_size : (h : Head) → 20 ≤ head_size h
least_size h = go (is_some h.cluster) (is_some h.packet)
  where
    go : (a b : Bool) → 20 ≤ (if a then 32 else (if b then 28 else 20))
    go true b = lit≤ tt
    go false true = lit≤ tt
    go false false = lit≤ tt

sized_packet : (h : Head) (f : PacketHeader → PacketHeader) → IsSome h.packet
    → 28 ≤ head_size (record h { packet = option_map f h.packet })
sized_packet h f has = go h.packet (is_some h.cluster) has
  where
    go : (p : Option PacketHeader) (a : Bool) → IsSome p
        → 28 ≤ (if a then 32 else (if is_some (option_map f p) then 28 else 20))
    go None a h = absurd (false≢true h)
    go (Some p) true h = lit≤ tt
    go (Some p) false h = lit≤ tt

low_field : (h : Head) (n : ℕ) → n ≤ 20 → n ≤ head_size h
low_field h n few = omega (arith, least_size h)

packet_field : (h : Head) (f : PacketHeader → PacketHeader) (n : ℕ) → n ≤ 28 → IsSome h.packet
    → n ≤ head_size (record h { packet = option_map f h.packet })
packet_field h f n few has = omega (arith, sized_packet h f has)

-- the same for an equal change
sets_changed : (v t : Cells) (i : ℕ) (d e : Change) → d ≡ e → SetsCellHead v t i (changed (cell_head v i) e)
    → SetsCellHead v t i (changed (cell_head v i) d)
sets_changed v t i d e is sets = subst (λ (x : Change). SetsCellHead v t i (changed (cell_head v i) x)) (sym is) sets

module _ (r : Inside) (is : IsRegion r) (v : Cells) (e : cells_of r ≡ v) (i : ℕ) (lt : i < length v.heads) where
  there : i < r.mbufs
  there = let below : i < length (cells_of r).heads = subst (λ (x : Cells). i < length x.heads) (sym e) lt in
      omega (arith, below, length-heads r.mbufs r.block)

  pub room_at : 128 * i + 32 ≤ length r.block
  room_at = omega (arith, is.0, there)

  head_there : cell_head_in r.block (128 * i) ≡ cell_head v i
  head_there = sym (head_at r.mbufs r.block i zero_head there) ∙ ap (λ (x : Cells). cell_head x i) e

  field_set : (g : Head → Head) (k n at : ℕ) (ws : List ℕ) → at ≡ 128 * i + k → length ws ≡ n
      → k + n ≤ head_size (g (cell_head v i))
      → cell_head_in (patched r.block (128 * i) k ws) 0 ≡ g (cell_head_in r.block (128 * i))
      → SetsCellHead v (cells_of (record r { block = over r.block at (take n ws) })) i (g (cell_head v i))
  field_set g k n at ws place long few decoded =
      let h = g (cell_head v i) in
      let o : ℕ = 128 * i in
      let fits : k + length ws ≤ 32 = omega (arith, head_size_le h) in
      let p = patched r.block o k ws in
      let p_long = patched_long r.block o k ws room_at fits in
      let b = take (head_size h) p in
      let whole : take n ws ≡ ws = take_all n ws (omega arith) in
      let same : over r.block at (take n ws) ≡ over r.block o b =
      (λ t. over r.block (place t) (whole t))
      ∙ patch_over r.block o k ws room_at fits (head_size h) (omega arith) (head_size_le h) in (
        b,
        length-take-le (head_size h) p (omega (arith, p_long, head_size_le h)),
        (λ t. cells_of (record r { block = same t }))
            ∙ (λ t. record {
              heads = head_written r.block p r.mbufs i h there (omega (arith, is.0)) p_long
                  (decoded ∙ ap g head_there) t;
              bytes = over r.block o b;
              clusters = r.clusters;
            })
            ∙ ap (λ (x : Cells). with_head x i h b) e,
      )

  -- the change d, which is known as e, made by bytes that are written over those from index k on
  change_made : (d e : Change) → d ≡ e → (k n at : ℕ) (ws : List ℕ) → at ≡ 128 * i + k → length ws ≡ n
      → k + n ≤ head_size (changed (cell_head v i) e)
      → (128 * i + 32 ≤ length r.block
      → cell_head_in (patched r.block (128 * i) k ws) 0 ≡ changed (cell_head_in r.block (128 * i)) e)
      → SetsCellHead v (cells_of (record r { block = over r.block at (take n ws) })) i (changed (cell_head v i) d)
  change_made d e is k n at ws place long few decoded =
      sets_changed v _ i d e is (field_set (λ (h : Head). changed h e) k n at ws place long few (decoded room_at))

  -- of a field that each head has
  pub low_change : (d e : Change) → d ≡ e → (k n at : ℕ) (ws : List ℕ) → k + n ≤ 20 → at ≡ 128 * i + k → length ws ≡ n
      → (128 * i + 32 ≤ length r.block
      → cell_head_in (patched r.block (128 * i) k ws) 0 ≡ changed (cell_head_in r.block (128 * i)) e)
      → SetsCellHead v (cells_of (record r { block = over r.block at (take n ws) })) i (changed (cell_head v i) d)
  low_change d e is k n at ws low place long =
      change_made d e is k n at ws place long (low_field (changed (cell_head v i) e) (k + n) low)

  -- of a field of the packet header
  pub packet_change : (d e : Change) → d ≡ e → (f : PacketHeader → PacketHeader)
      → changed (cell_head v i) e ≡ record (cell_head v i) { packet = option_map f (cell_head v i).packet }
      → (k n at : ℕ) (ws : List ℕ) → k + n ≤ 28 → (IsChange (cell_head v i) e → IsSome (cell_head v i).packet)
      → IsChange (cell_head v i) d → at ≡ 128 * i + k → length ws ≡ n
      → (128 * i + 32 ≤ length r.block
      → cell_head_in (patched r.block (128 * i) k ws) 0 ≡ changed (cell_head_in r.block (128 * i)) e)
      → SetsCellHead v (cells_of (record r { block = over r.block at (take n ws) })) i (changed (cell_head v i) d)
  packet_change d e is f same k n at ws low has possible place long =
      change_made d e is k n at ws place long
      (subst (λ (h : Head). k + n ≤ head_size h) (sym same)
      (packet_field (cell_head v i) f (k + n) low
      (has (subst (λ (x : Change). IsChange (cell_head v i) x) is possible))))

  pub field_sized : (h : Head) (t : Cells) → SetsCellHead v t i h → IsSized t
  field_sized h t sets = sized_after_head v t i h (subst IsSized e (region_sized r is)) lt sets

  pub field_kept : (k n at : ℕ) (ws : List ℕ) → at ≡ 128 * i + k → length ws ≡ n → k + n ≤ 32
      → IsRegion (record r { block = over r.block at (take n ws) })
  field_kept k n at ws place long few =
      let whole = take_all n ws (omega arith) in
      (length_over r.block at (take n ws) (omega (arith, room_at)) ∙ is.0, is.1, is.2, is.3)

-- the flags are the same in the two bytes lent
pub flags_read : (bs : List ℕ) (at : ℕ) (lent : List ℕ) → lent ≡ take 2 (drop at bs)
    → little_u16_at lent 0 ≡ little_u16_at bs at
flags_read bs at lent is =
    let low : get_or (take 2 (drop at bs)) 0 0 ≡ get_or bs at 0 =
    get_or-take 2 (drop at bs) 0 0 (omega arith) ∙ get_or-drop at bs 0 0
    ∙ (let same : at + 0 ≡ at = omega arith in ap (λ x. get_or bs x 0) same) in
    let high : get_or (take 2 (drop at bs)) 1 0 ≡ get_or bs (at + 1) 0 =
    get_or-take 2 (drop at bs) 1 0 (omega arith) ∙ get_or-drop at bs 1 0 in
    ap (λ l. little_u16_at l 0) is ∙ (λ t. low t + high t * 0x100)
