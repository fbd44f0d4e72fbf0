-- Writing bytes that only one mbuf refers to.
use Rattle.std.proofs.Common.{◌≡◌, ◌≢◌, ℕ, ◌+◌, ◌-◌, ◌<◌, ◌≤◌, ◌⊎◌, true, cond, List, [], ◌∷◌, ◌++◌, length, Option, None, Some, is_some, unwrap_or, refl, sym, ap, ◌∙◌, subst, arith, inl, inr, take, drop, take_all}
use Rattle.std.proofs.lemmas.Bool.{cases_eq}
use Rattle.std.proofs.lemmas.List.{length-set}
use Rattle.mbuf_pool.specs.Cells.{Head, Part, Buffer, over}
use Rattle.mbuf_pool.specs.Store.{StoreView, MbufView, ClusterView, no_mbuf, is_out, mbuf_of, mbuf_head, cluster_of, cluster_count, with_mbuf, with_cluster, with_bytes, bytes_in, stored_part, write, IsRoom, IsStore}
use Rattle.mbuf_chain.specs.declared.place.Place.{Place}
use Rattle.mbuf_chain.specs.Chain.{Entry, PoolView, chain_of, IsLive, IsPlace, with_chain, entry_of, room_end}
use Rattle.mbuf_chain.specs.Steps.{with_entry, with_front, with_back, overwritten}
use Rattle.mbuf_chain.specs.Inside.Access.{CanWrite, HasMbuf, Written}
use Rattle.mbuf_chain.specs.Inside.Cells.{weigh, weigh_all, is_at, buffer_of, place_bytes, entry_from, entry_at, entry_over, front_of, refers_at, first_of, IsFit, pool_of, head_room_low, room_high, with_segment, WritesPlace}
use Rattle.mbuf_chain.proofs.Lists.{is_at_other, out_below}
use Rattle.mbuf_chain.proofs.Changes.{SameCell, same_cell}
use Rattle.mbuf_chain.proofs.Focused.{Focused, open_on, enter, weigh_has}
use Rattle.mbuf_chain.proofs.Rewrites.{SameOuts, changed, changed_entry}
use Rattle.mbuf_chain.proofs.Heads.{same_outs, Shown, shown_at, low_is, with_entry_same, with_self}
use Rattle.mbuf_chain.proofs.Made.{unreferenced, counted_at}
use Rattle.mbuf_pool.proofs.Laws.{counted_within}
use Rattle.mbuf_chain.proofs.Stores.{slot_here, mbuf_there, out_there, refers_to, cluster_here, cluster_there}
use Rattle.mbuf_chain.proofs.Bytes.{run_apart, written_after, written_before, written_within}

-- ---- a write in a store
pub record PlaceWrite (s t : StoreView) (x start : ℕ) (ws : List ℕ) : Type 0 where
  pub outs : SameOuts s t
  pub heads : (k : ℕ) → mbuf_head t k ≡ mbuf_head s k
  pub bytes : place_bytes t x (mbuf_head s x).cluster ≡ over (place_bytes s x (mbuf_head s x).cluster) start ws
  pub others : (k : ℕ) → k ≢ x → ((d : ℕ) → (mbuf_head s x).cluster ≡ Some d → (mbuf_head s k).cluster ≡ Some d → ⊥)
      → SameCell s t k

in_mbuf : (s : StoreView) (x start : ℕ) (ws : List ℕ) → is_out s x ≡ true → (mbuf_head s x).cluster ≡ None
    → PlaceWrite s (with_bytes s (buffer_of x None) (over (bytes_in s (buffer_of x None)) start ws)) x start ws
in_mbuf s x start ws out none =
    let m : MbufView = record { head = mbuf_head s x; bytes = over (mbuf_of s x).bytes start ws } in
    let lt = out_below s x out in
    let here : mbuf_of (with_mbuf s x
    (Some (record { head = mbuf_head s x; bytes = over (mbuf_of s x).bytes start ws })))
    x ≡ record { head = mbuf_head s x; bytes = over (mbuf_of s x).bytes start ws } =
    ap (λ (o : Option MbufView). unwrap_or o no_mbuf) (slot_here s x (Some m) lt) in
    record {
      outs = same_outs s x m out;
      heads = λ k. elim (cases_eq k x) [
        | inl e ↦ subst (λ (j : ℕ). mbuf_head
            (with_mbuf s x (Some (record { head = mbuf_head s x; bytes = over (mbuf_of s x).bytes start ws }))) j
            ≡ mbuf_head s j) (sym e) (ap (λ (v : MbufView). v.head) here)
        | inr ne ↦ ap (λ (v : MbufView). v.head) (mbuf_there s x (Some m) lt k ne)
      ];
      bytes =
          subst (λ (o : Option ℕ). place_bytes
          (with_mbuf s x (Some (record { head = mbuf_head s x; bytes = over (mbuf_of s x).bytes start ws }))) x o
          ≡ over (place_bytes s x o) start ws) (sym none) (ap (λ (v : MbufView). v.bytes) here);
      others =
          λ k ne _. same_cell s (with_mbuf s x (Some m)) k (mbuf_there s x (Some m) lt k ne)
          (out_there s x (Some m) lt k ne) (λ d is. refl);
    }

in_cluster : (s : StoreView) (x d start : ℕ) (ws : List ℕ) → (mbuf_head s x).cluster ≡ Some d → 0 < cluster_count s d
    → PlaceWrite s (with_bytes s (buffer_of x (Some d)) (over (bytes_in s (buffer_of x (Some d))) start ws)) x start ws
in_cluster s x d start ws some counted =
    let v : ClusterView = record { count = cluster_count s d; bytes = over (cluster_of s d).bytes start ws } in
    let lt = counted_within s d counted in
    let here : cluster_of (with_cluster s d
    (record { count = cluster_count s d; bytes = over (cluster_of s d).bytes start ws })) d ≡ record {
      count =
          cluster_count s d;
      bytes = over (cluster_of s d).bytes start ws;
    } = cluster_here s d v lt in
    record {
      outs = record {
        mbufs = refl;
        clusters = length-set s.clusters d v;
        outs = λ k. refl;
        total = refl;
        counts = λ c. elim (cases_eq c d) [
          | inl e ↦ subst (λ (j : ℕ). cluster_count
              (with_cluster s d (record { count = cluster_count s d; bytes = over (cluster_of s d).bytes start ws })) j
              ≡ cluster_count s j) (sym e) (ap (λ (w : ClusterView). w.count) here)
          | inr ne ↦ ap (λ (w : ClusterView). w.count) (cluster_there s d v lt c ne)
        ];
      };
      heads = λ k. refl;
      bytes =
          subst (λ (o : Option ℕ). place_bytes
          (with_cluster s d (record { count = cluster_count s d; bytes = over (cluster_of s d).bytes start ws })) x o
          ≡ over (place_bytes s x o) start ws) (sym some) (ap (λ (w : ClusterView). w.bytes) here);
      others =
          λ k ne apart. same_cell s (with_cluster s d v) k refl refl
          (λ c is. ap (λ (w : ClusterView). w.bytes)
          (cluster_there s d v lt c (λ e. absurd (apart d some (is ∙ ap {B = Option ℕ} Some e)))));
    }

pub place_written : (s t : StoreView) (x start : ℕ) (ws : List ℕ) → is_out s x ≡ true
    → ((d : ℕ) → (mbuf_head s x).cluster ≡ Some d → 0 < cluster_count s d)
    → t ≡ with_bytes s (buffer_of x (mbuf_head s x).cluster)
    (over (bytes_in s (buffer_of x (mbuf_head s x).cluster)) start ws) → PlaceWrite s t x start ws
place_written s t x start ws out counted is = go (mbuf_head s x).cluster refl
  where
    go : (o : Option ℕ) → (mbuf_head s x).cluster ≡ o → PlaceWrite s t x start ws
    go None e =
        subst (λ (u : StoreView). PlaceWrite s u x start ws)
        (sym (is ∙ ap (λ (o : Option ℕ). with_bytes s (buffer_of x o) (over (bytes_in s (buffer_of x o)) start ws)) e))
        (in_mbuf s x start ws out e)
    go (Some d) e =
        subst (λ (u : StoreView). PlaceWrite s u x start ws)
        (sym (is ∙ ap (λ (o : Option ℕ). with_bytes s (buffer_of x o) (over (bytes_in s (buffer_of x o)) start ws)) e))
        (in_cluster s x d start ws e (counted d e))

-- ---- no other mbuf refers to the bytes
abbrev flat : List (List ℕ) → List ℕ
flat [] = []
flat (l ∷ ls) = l ++ flat ls

weigh_flat : (f : ℕ → ℕ) (ls : List (List ℕ)) → weigh f (flat ls) ≡ weigh_all f ls
weigh_flat f [] = refl
weigh_flat f (l ∷ ls) = omega (arith, weigh_on l (flat ls), weigh_flat f ls)
  where
    weigh_on : (a b : List ℕ) → weigh f (a ++ b) ≡ weigh f a + weigh f b
    weigh_on [] b = omega arith
    weigh_on (x ∷ a) b = omega (arith, weigh_on a b)

two_in : (f : ℕ → ℕ) (x k : ℕ) (l : List ℕ) → k ≢ x → 0 < weigh (is_at x) l → 0 < weigh (is_at k) l
    → f x + f k ≤ weigh f l
two_in f x k [] ne a b = absurd (omega arith)
two_in f x k (y ∷ ys) ne a b =
    elim (cases_eq y x) [
      | inl e ↦ omega (arith, ap f e, weigh_has f k ys (omega (arith, b, is_at_other k y (λ w. ne (sym w ∙ e)))))
      | inr nx ↦ elim (cases_eq y k) [
        | inl e ↦ omega (arith, ap f e, weigh_has f x ys (omega (arith, a, is_at_other x y nx)))
        | inr nk ↦ omega (
          arith,
          two_in f x k ys ne (omega (arith, a, is_at_other x y nx))
              (omega (arith, b, is_at_other k y nk)),
        )
      ]
    ]

-- if a cluster has one reference, no other mbuf refers to it
sole : (s : StoreView) (c x d : ℕ) → (f : Focused s c) → 0 < weigh (is_at x) f.cells → cluster_count s d ≡ 1
    → (mbuf_head s x).cluster ≡ Some d → (k : ℕ) → k ≢ x → 0 < weigh (is_at k) f.cells + weigh_all (is_at k) f.rest
    → (mbuf_head s k).cluster ≡ Some d → ⊥
sole s c x d f inside one_ref is k ne there same =
    absurd (omega (
      arith,
      two_in (refers_at s d) x k (flat (f.cells ∷ f.rest)) ne
          (omega (arith, weigh_flat (is_at x) (f.cells ∷ f.rest), inside))
          (omega (arith, weigh_flat (is_at k) (f.cells ∷ f.rest), there)),
      weigh_flat (refers_at s d) (f.cells ∷ f.rest),
      f.sound.counted d,
      refers_to s x d is,
      refers_to s k d same,
      one_ref,
    ))

-- ---- a write in a live chain
pub written : (s t : StoreView) (c start : ℕ) (ws : List ℕ) (at : Place) → CanWrite s c at
    → PlaceWrite s t at.cell start ws → IsStore t → Written s t c at start ws
written s t c start ws at can w store =
    let o = open_on s c can.place.pool can.place.live in
    let f = o.at in
    let e = enter s c at o.at can.place.place in
    let x = at.cell in
    let ref : (d : ℕ) → (mbuf_head s at.cell).cluster ≡ Some d → cluster_count s d ≡ 1 =
    λ d is. sym (unreferenced s can.place.pool d) ∙ can.unshared d (ap (λ (y : Entry). y.cluster) e.shows ∙ is) in
    let r = changed s t c at.index at.cell o.at e.below e.cell w.outs store (record {
      next = ap (λ (y : Head). y.next) (w.heads at.cell);
      cluster = ap (λ (y : Head). y.cluster) (w.heads at.cell);
      out = w.outs.outs at.cell ∙ e.out;
      fit = subst IsFit (sym (w.heads at.cell)) e.fit;
    }) (λ k ne out there. w.others k ne (λ d is same. sole s c at.cell d o.at e.inside (ref d is) is k ne there
    same)) (λ _ was. subst Rattle.mbuf_chain.specs.Inside.Cells.IsFollower (sym (w.heads at.cell)) was) in
    let entry : entry_at t at.cell ≡ entry_over s at.cell start ws =
    ap (entry_from t at.cell) (w.heads at.cell)
    ∙ (λ i. record {
      bytes = take (mbuf_head s at.cell).len (drop (mbuf_head s at.cell).start (w.bytes i));
      start = (mbuf_head s at.cell).start;
      cluster = (mbuf_head s at.cell).cluster;
    }) in
    record {
      pool = (
        f.cells ∷ f.rest,
        r.sound,
        (
          λ packet is. omega (
            arith,
            o.totals.0 packet
                (ap (λ (y : Head). y.packet) (sym (w.heads (first_of o.at.cells))) ∙ is),
            r.lens,
            ap (λ (y : Head). y.len) (w.heads at.cell),
          ),
          r.totals o.totals.1,
        ),
      );
      writes = record {
        head = w.heads at.cell;
        bytes = w.bytes;
        map_is =
            changed_entry s t c at.index at.cell f r (ap front_of (w.heads c))
            ∙ ap (λ (y : Entry). with_chain (pool_of s) c (with_entry (chain_of (pool_of s) c) at.index y)) entry;
      };
    }

-- ---- the buffer has room for the write
pub room_of : (s : StoreView) (c start n : ℕ) (at : Place) → Shown s c at
    → ((d : ℕ) → (mbuf_head s at.cell).cluster ≡ Some d → 0 < cluster_count s d)
    → head_room_low (mbuf_head s at.cell) ≤ start
    → start + n ≤ room_high (mbuf_head s at.cell)
    → IsRoom s (buffer_of at.cell (mbuf_head s at.cell).cluster) start n
room_of s c start n at k counted low high = go (mbuf_head s at.cell).cluster refl
  where
    go : (o : Option ℕ) → (mbuf_head s at.cell).cluster ≡ o
        → IsRoom s (buffer_of at.cell (mbuf_head s at.cell).cluster) start n
    go None e =
        subst (λ (o : Option ℕ). IsRoom s (buffer_of at.cell o) start n) (sym e) (
          k.out,
          e,
          omega (arith, low_is (mbuf_head s at.cell) e, low),
          omega (arith, high, ap (λ (o : Option ℕ). cond {A = ℕ} (is_some o) 2048 128) e),
        )
    go (Some d) e =
        subst (λ (o : Option ℕ). IsRoom s (buffer_of at.cell o) start n) (sym e)
        (counted d e, omega (arith, high, ap (λ (o : Option ℕ). cond {A = ℕ} (is_some o) 2048 128) e))

pub write_is : (s : StoreView) (p : Part) (ws : List ℕ) → p.len ≡ length ws
    → write s p ws ≡ with_bytes s p.buffer (over (bytes_in s p.buffer) p.start ws)
write_is s p ws e =
    ap (λ (l : List ℕ). with_bytes s p.buffer (over (bytes_in s p.buffer) p.start l))
    (take_all p.len ws (omega (arith, e)))

-- ---- data areas, by the entry
pub high_seen : (s : StoreView) (c : ℕ) (at : Place) → Shown s c at
    → room_high (mbuf_head s at.cell) ≡ room_end (entry_of (chain_of (pool_of s) c) at.index)
high_seen s c at k = ap (λ (e : Entry). cond {A = ℕ} (is_some e.cluster) 2048 128) (sym k.entry)

-- a write before or after the data bytes of an mbuf leaves the view of the pool unchanged
pub same_pool : (s t : StoreView) (c start : ℕ) (ws : List ℕ) (at : Place) → IsLive (pool_of s) c → Shown s c at
    → WritesPlace s t c at start ws → start + length ws ≤ room_high (mbuf_head s at.cell)
    → ((mbuf_head s at.cell).start + (mbuf_head s at.cell).len ≤ start)
    ⊎ (start + length ws ≤ (mbuf_head s at.cell).start)
    → pool_of t ≡ pool_of s
same_pool s t c start ws at live k w fits apart =
    let h = mbuf_head s at.cell in
    let bytes : take (mbuf_head s at.cell).len
    (drop (mbuf_head s at.cell).start (over (place_bytes s at.cell (mbuf_head s at.cell).cluster) start ws))
    ≡ take (mbuf_head s at.cell).len
    (drop (mbuf_head s at.cell).start (place_bytes s at.cell (mbuf_head s at.cell).cluster)) =
    run_apart (place_bytes s at.cell (mbuf_head s at.cell).cluster) start ws (mbuf_head s at.cell).start
    (mbuf_head s at.cell).len (omega (arith, k.place, fits)) (omega (arith, k.place, k.fit.high)) (turn apart) in
    let entry : entry_over s at.cell start ws ≡ entry_at s at.cell =
    λ i. record { bytes = bytes i; start = h.start; cluster = h.cluster } in
    w.map_is ∙ ap (with_chain (pool_of s) c)
    (with_entry_same (chain_of (pool_of s) c) at.index (entry_over s at.cell start ws) (k.entry ∙ sym entry))
    ∙ with_self (pool_of s) c live
  where
    turn : ((mbuf_head s at.cell).start + (mbuf_head s at.cell).len ≤ start)
        ⊎ (start + length ws ≤ (mbuf_head s at.cell).start)
        → (start + length ws ≤ (mbuf_head s at.cell).start)
        ⊎ ((mbuf_head s at.cell).start + (mbuf_head s at.cell).len ≤ start)
    turn (inl a) = inr a
    turn (inr a) = inl a

-- a step that writes bytes and then includes them in the data: what its second part needs from the first
pub record Grown (s t : StoreView) (c : ℕ) (at : Place) : Type 0 where
  pub place : HasMbuf t c at
  pub same : pool_of t ≡ pool_of s
  pub head : mbuf_head t at.cell ≡ mbuf_head s at.cell

pub grown : (s t : StoreView) (c start : ℕ) (ws : List ℕ) (at : Place) → HasMbuf s c at → Written s t c at start ws
    → start + length ws ≤ room_high (mbuf_head s at.cell)
    → ((mbuf_head s at.cell).start + (mbuf_head s at.cell).len ≤ start)
    ⊎ (start + length ws ≤ (mbuf_head s at.cell).start)
    → Grown s t c at
grown s t c start ws at has w fits apart =
    let same = same_pool s t c start ws at has.live (shown_at has) w.writes fits apart in
    record {
      place = record {
        pool = w.pool;
        live = subst (λ (p : PoolView). IsLive p c) (sym same) has.live;
        place = subst (λ (p : PoolView). IsPlace (chain_of p c) at) (sym same) has.place;
      };
      same = same;
      head = w.writes.head;
    }

-- the entry after that: with the bytes after its own, or before them
pub grown_back : (s t : StoreView) (c n : ℕ) (ws : List ℕ) (at : Place) → Shown s c at
    → WritesPlace s t c at ((mbuf_head s at.cell).start + (mbuf_head s at.cell).len) ws → n ≡ length ws
    → (mbuf_head s at.cell).start + (mbuf_head s at.cell).len + length ws ≤ room_high (mbuf_head s at.cell)
    → entry_from t at.cell (with_segment (mbuf_head t at.cell) (mbuf_head s at.cell).start
    ((mbuf_head s at.cell).len + n))
    ≡ with_back (entry_of (chain_of (pool_of s) c) at.index) ws
grown_back s t c n ws at k w count fits =
    let h = mbuf_head s at.cell in
    (λ i. record {
      bytes = take (h.len + count i) (drop h.start (place_bytes t at.cell (w.head i).cluster));
      start = h.start;
      cluster = (w.head i).cluster;
    })
    ∙ (λ i. record {
      bytes = (ap (λ (xs : List ℕ). take (h.len + length ws) (drop h.start xs)) w.bytes
          ∙ written_after (place_bytes s at.cell (mbuf_head s at.cell).cluster) (mbuf_head s at.cell).start
          (mbuf_head s at.cell).len ws (omega (arith, k.place, fits))) i;
      start = h.start;
      cluster = h.cluster;
    })
    ∙ ap (λ (e : Entry). with_back e ws) (sym k.entry)

pub grown_front : (s t : StoreView) (c n start : ℕ) (ws : List ℕ) (at : Place) → Shown s c at
    → WritesPlace s t c at start ws → n ≡ length ws → start + length ws ≡ (mbuf_head s at.cell).start
    → entry_from t at.cell (with_segment (mbuf_head t at.cell) start ((mbuf_head s at.cell).len + n))
    ≡ with_front (entry_of (chain_of (pool_of s) c) at.index) ws
grown_front s t c n start ws at k w count is =
    let h = mbuf_head s at.cell in
    let less : start ≡ (mbuf_head s at.cell).start - length ws = omega (arith, is) in
    (λ i. record {
      bytes = take (h.len + count i) (drop start (place_bytes t at.cell (w.head i).cluster));
      start = start;
      cluster = (w.head i).cluster;
    })
    ∙ (λ i. record {
      bytes = (ap (λ (xs : List ℕ). take (h.len + length ws) (drop start xs)) w.bytes
          ∙ written_before (place_bytes s at.cell (mbuf_head s at.cell).cluster) (mbuf_head s at.cell).start start
          (mbuf_head s at.cell).len ws is (omega (arith, k.place, k.fit.high))) i;
      start = less i;
      cluster = h.cluster;
    })
    ∙ ap (λ (e : Entry). with_front e ws) (sym k.entry)

-- the entry after a write over its bytes
pub overwritten_is : (s : StoreView) (c offset : ℕ) (ws : List ℕ) (at : Place) → Shown s c at
    → offset + length ws ≤ (mbuf_head s at.cell).len
    → entry_over s at.cell ((mbuf_head s at.cell).start + offset) ws
    ≡ overwritten (entry_of (chain_of (pool_of s) c) at.index) offset ws
overwritten_is s c offset ws at k within =
    let h = mbuf_head s at.cell in
    (λ i. record {
      bytes = written_within (place_bytes s at.cell (mbuf_head s at.cell).cluster) (mbuf_head s at.cell).start
          (mbuf_head s at.cell).len offset ws (omega (arith, k.place, k.fit.high)) within i;
      start =
          h.start;
      cluster = h.cluster;
    })
    ∙ ap (λ (e : Entry). overwritten e offset ws) (sym k.entry)

-- both parts of the step
pub grown_is : (s t u : StoreView) (c : ℕ) (at : Place) (e : Entry) (e' : Entry) → pool_of t ≡ pool_of s
    → pool_of u ≡ with_chain (pool_of t) c (with_entry (chain_of (pool_of t) c) at.index e) → e ≡ e'
    → pool_of u ≡ with_chain (pool_of s) c (with_entry (chain_of (pool_of s) c) at.index e')
grown_is s t u c at e e' same change is =
    change ∙ (λ i. with_chain (same i) c (with_entry (chain_of (same i) c) at.index (is i)))

-- the bytes of an entry, as bytes of its buffer
pub entry_bytes : (s : StoreView) (c skip n start : ℕ) (b : Buffer) (at : Place) → Shown s c at
    → b ≡ buffer_of at.cell (mbuf_head s at.cell).cluster → start ≡ (mbuf_head s at.cell).start + skip
    → skip + n ≤ length (entry_of (chain_of (pool_of s) c) at.index).bytes
    → take n (drop start (bytes_in s b)) ≡ take n (drop skip (entry_of (chain_of (pool_of s) c) at.index).bytes)
entry_bytes s c skip n start b at k is begins within =
    (λ i. take n (drop (begins i) (bytes_in s (is i))))
    ∙ ap (λ (xs : List ℕ). take n (drop ((mbuf_head s at.cell).start + skip) xs)) (same (mbuf_head s at.cell).cluster)
    ∙ sym (Rattle.mbuf_chain.proofs.Bytes.run_inner (place_bytes s at.cell (mbuf_head s at.cell).cluster)
    (mbuf_head s at.cell).start (mbuf_head s at.cell).len skip n (omega (arith, k.place, k.fit.high))
    (omega (arith, k.long, within)))
    ∙ ap (λ (e : Entry). take n (drop skip e.bytes)) (sym k.entry)
  where
    same : (o : Option ℕ) → bytes_in s (buffer_of at.cell o) ≡ place_bytes s at.cell o
    same None = refl
    same (Some d) = refl

-- ---- bytes lent, and copied
-- some of the data bytes of an mbuf
pub source_room : {s : StoreView} {c : ℕ} (skip n : ℕ) {at : Place} {h : Head} {b : Buffer} → HasMbuf s c at
    → h ≡ mbuf_head s at.cell → b ≡ buffer_of at.cell h.cluster
    → skip + n ≤ length (entry_of (chain_of (pool_of s) c) at.index).bytes → IsRoom s b (h.start + skip) n
source_room {s} {c} skip n {at} {h} {b} has e is within =
    let k = shown_at has in
    subst (λ (a : Buffer). IsRoom s a (h.start + skip) n) (sym (is ∙ ap (λ (y : Head). buffer_of at.cell y.cluster) e))
    (room_of s c (h.start + skip) n at k (λ d. counted_at d has)
    (omega (arith, k.fit.low, ap (λ (y : Head). y.start) e))
    (omega (arith, k.fit.high, k.long, within, ap (λ (y : Head). y.start) e)))

pub target_room : {s : StoreView} {c : ℕ} (start n : ℕ) {at : Place} {h : Head} {b : Buffer} → HasMbuf s c at
    → h ≡ mbuf_head s at.cell → b ≡ buffer_of at.cell h.cluster
    → head_room_low (mbuf_head s at.cell) ≤ start → start + n ≤ room_high (mbuf_head s at.cell) → IsRoom s b start n
target_room {s} {c} start n {at} {h} {b} has e is low high =
    subst (λ (a : Buffer). IsRoom s a start n) (sym (is ∙ ap (λ (y : Head). buffer_of at.cell y.cluster) e))
    (room_of s c start n at (shown_at has) (λ d. counted_at d has) low high)

pub lent_room : {s : StoreView} {c : ℕ} {at : Place} {h : Head} {b : Buffer} → HasMbuf s c at
    → h ≡ mbuf_head s at.cell → b ≡ buffer_of at.cell h.cluster
    → IsRoom s b h.start h.len
lent_room {s} {c} {at} {h} {b} has e is =
    let k = shown_at has in
    target_room h.start h.len has e is (omega (arith, k.fit.low, ap (λ (y : Head). y.start) e))
    (omega (arith, k.fit.high, ap (λ (y : Head). y.start) e, ap (λ (y : Head). y.len) e))

place_is : (s : StoreView) (x : ℕ) (o : Option ℕ) → bytes_in s (buffer_of x o) ≡ place_bytes s x o
place_is s x None = refl
place_is s x (Some d) = refl

pub lent_bytes : {s : StoreView} {c : ℕ} {at : Place} {h : Head} {b : Buffer} → HasMbuf s c at
    → h ≡ mbuf_head s at.cell → b ≡ buffer_of at.cell h.cluster
    → take h.len (drop h.start (bytes_in s b)) ≡ (entry_of (chain_of (pool_of s) c) at.index).bytes
lent_bytes {s} {c} {at} {h} {b} has e is =
    let k = shown_at has in
    (λ i. take (e i).len (drop (e i).start (bytes_in s ((is ∙ ap (λ (y : Head). buffer_of at.cell y.cluster) e) i))))
    ∙ ap (λ (xs : List ℕ). take (mbuf_head s at.cell).len (drop (mbuf_head s at.cell).start xs))
    (place_is s at.cell (mbuf_head s at.cell).cluster)
    ∙ ap (λ (y : Entry). y.bytes) (sym k.entry)

pub copied : {s t : StoreView} (c other : ℕ) {start : ℕ} (skip n : ℕ) {at from : Place} {h g : Head} {b a : Buffer}
    → CanWrite s c at → HasMbuf s other from
    → skip + n ≤ length (entry_of (chain_of (pool_of s) other) from.index).bytes
    → h ≡ mbuf_head s at.cell → g ≡ mbuf_head s from.cell → b ≡ buffer_of at.cell h.cluster
    → a ≡ buffer_of from.cell g.cluster
    → t ≡ write s (record { buffer = b; start = start; len = n })
    (stored_part s (record { buffer = a; start = g.start + skip; len = n })) → IsStore t
    → Written s t c at start (take n (drop skip (entry_of (chain_of (pool_of s) other) from.index).bytes))
copied {s} {t} c other {start} skip n {at} {from} {h} {g} {b} {a} can has_from within e e' is is' change store =
    let k' = shown_at has_from in
    let ws = take n (drop skip (entry_of (chain_of (pool_of s) other) from.index).bytes) in
    let read_is : take n (drop (g.start + skip) (bytes_in s a))
    ≡ take n (drop skip (entry_of (chain_of (pool_of s) other) from.index).bytes) =
    entry_bytes s other skip n (g.start + skip) a from k' (is' ∙ ap (λ (y : Head). buffer_of from.cell y.cluster) e')
    (ap (λ (y : Head). y.start + skip) e') within in
    let long : n ≡ length (take n (drop skip (entry_of (chain_of (pool_of s) other) from.index).bytes)) =
    sym (Rattle.mbuf_chain.proofs.Bytes.run_length (entry_of (chain_of (pool_of s) other) from.index).bytes skip n
    within) in
    written s t c start ws at can
    (place_written s t at.cell start ws (shown_at can.place).out (λ d. counted_at d can.place)
    (change ∙ ap (λ (xs : List ℕ). write s (record { buffer = b; start = start; len = n }) xs) read_is
    ∙ write_is s (record { buffer = b; start = start; len = n }) ws long
    ∙ ap (λ (y : Buffer). with_bytes s y
    (over (bytes_in s y) start (take n (drop skip (entry_of (chain_of (pool_of s) other) from.index).bytes)))) (is
    ∙ ap (λ (y : Head). buffer_of at.cell y.cluster) e)))
    store
