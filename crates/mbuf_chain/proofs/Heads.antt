-- Replacing a head of a live chain.
use Rattle.std.proofs.Common.{◌≡◌, ◌≢◌, ℕ, zero, suc, ◌+◌, ◌-◌, ◌<◌, ◌≤◌, true, cond, List, [], ◌∷◌, length, Option, None, Some, is_some, option_map, unwrap_or, refl, sym, ap, ◌∙◌, subst, arith, inl, inr, slice_set, slice_index_or, take, drop}
use Rattle.std.specs.List.{AllByRecursion}
use Rattle.std.proofs.lemmas.Bool.{cases_eq}
use Rattle.std.proofs.lemmas.Option.{none-some, same_Some}
use Rattle.std.proofs.lemmas.List.{length-set}
use Rattle.mbuf_pool.specs.Cells.{Head, PacketHeader, head_size, over, with_packet_len}
use Rattle.mbuf_pool.specs.Store.{StoreView, MbufView, is_out, mbuf_of, mbuf_head, with_mbuf, SetsHead, IsStore}
use Rattle.mbuf_chain.specs.declared.place.Place.{Place}
use Rattle.mbuf_chain.specs.Chain.{Entry, ChainView, PoolView, chain_of, IsLive, with_chain, entry_of}
use Rattle.mbuf_chain.specs.Steps.{with_entry, narrowed}
use Rattle.mbuf_chain.specs.Inside.Access.{HasMbuf}
use Rattle.mbuf_chain.specs.Inside.Cells.{weigh, is_at, one, len_at, place_bytes, entry_from, entry_at, front_of, arrival_of, refers_at, IsLinked, IsFollower, IsTotal, IsOff, IsFit, pool_of, IsPool, head_room_low, room_high, with_segment}
use Rattle.mbuf_chain.proofs.Maps.{insert_same}
use Rattle.mbuf_chain.proofs.Lists.{bit, on, out_below}
use Rattle.mbuf_chain.proofs.Changes.{SameCell, same_cell}
use Rattle.mbuf_chain.proofs.Focused.{Focused, open_on, open_off, Entered, enter, in_list, first_out}
use Rattle.mbuf_chain.proofs.Rewrites.{SameOuts, Changed, changed, changed_entry, off_after, rest_right, alone_first, some_cell, off_here}
use Rattle.mbuf_chain.proofs.Bytes.{run_apart, run_length, run_inner}
use Rattle.mbuf_chain.proofs.Stores.{slot_here, mbuf_there, out_there, out_here, outs_total, refers_to}
use Rattle.mbuf_chain.proofs.Laws.Steps.{live_shown}

-- ---- a head of a store
pub record HeadSet (s t : StoreView) (x : ℕ) (h : Head) : Type 0 where
  pub outs : SameOuts s t
  pub head : mbuf_head t x ≡ h
  pub out : is_out t x ≡ true
  pub others : (k : ℕ) → k ≢ x → SameCell s t k
  pub entry : IsFit h → entry_at t x ≡ entry_from s x h

pub same_outs : (s : StoreView) (x : ℕ) (m : MbufView) → is_out s x ≡ true → SameOuts s (with_mbuf s x (Some m))
same_outs s x m out =
    let lt = out_below s x out in
    record {
      mbufs = length-set s.mbufs x (Some m);
      clusters = refl;
      outs = λ k. elim (cases_eq k x) [
        | inl e ↦ subst (λ (j : ℕ). is_out (with_mbuf s x (Some m)) j ≡ is_out s j) (sym e)
            (out_here s x (Some m) lt ∙ sym out)
        | inr ne ↦ out_there s x (Some m) lt k ne
      ];
      total = omega (arith, outs_total s x (Some m) lt, on (is_out s x) out);
      counts = λ c. refl;
    }

-- the data of an mbuf with a head that fits begins after the head
pub low_is : (h : Head) → h.cluster ≡ None → head_size h ≡ head_room_low h
low_is h none =
    ap (λ (o : Option ℕ). cond {A = ℕ} (is_some o) 32 (cond (is_some h.packet) 28 20)) none
    ∙ sym (ap (λ (o : Option ℕ). cond {A = ℕ} (is_some o) 0 (cond (is_some h.packet) 28 20)) none)

high_is : (h : Head) → h.cluster ≡ None → room_high h ≡ 128
high_is h none = ap (λ (o : Option ℕ). cond {A = ℕ} (is_some o) 2048 128) none

set_made : (s : StoreView) (x : ℕ) (h : Head) (b : List ℕ) → is_out s x ≡ true → length b ≡ head_size h → IsStore s
    → HeadSet s (with_mbuf s x (Some (record { head = h; bytes = over (mbuf_of s x).bytes 0 b }))) x h
set_made s x h b out long store =
    let m : MbufView = record { head = h; bytes = over (mbuf_of s x).bytes 0 b } in
    let lt = out_below s x out in
    let here : mbuf_of (with_mbuf s x (Some (record { head = h; bytes = over (mbuf_of s x).bytes 0 b }))) x
    ≡ record { head = h; bytes = over (mbuf_of s x).bytes 0 b } =
    ap (λ (o : Option MbufView). unwrap_or o Rattle.mbuf_pool.specs.Store.no_mbuf) (slot_here s x (Some m) lt) in
    record {
      outs = same_outs s x m out;
      head = ap (λ (v : MbufView). v.head) here;
      out = out_here s x (Some m) lt;
      others =
          λ k ne. same_cell s (with_mbuf s x (Some m)) k (mbuf_there s x (Some m) lt k ne)
          (out_there s x (Some m) lt k ne) (λ c e. refl);
      entry =
          λ fit. ap (entry_from (with_mbuf s x (Some m)) x) (ap (λ (v : MbufView). v.head) here)
          ∙ shown fit here h.cluster refl;
    }
  where
    shown : IsFit h → mbuf_of (with_mbuf s x (Some (record { head = h; bytes = over (mbuf_of s x).bytes 0 b }))) x
        ≡ record { head = h; bytes = over (mbuf_of s x).bytes 0 b }
        → (o : Option ℕ) → h.cluster ≡ o
        → entry_from (with_mbuf s x (Some (record { head = h; bytes = over (mbuf_of s x).bytes 0 b }))) x h
        ≡ entry_from s x h
    shown fit here (Some c) is =
        subst (λ (o : Option ℕ). take h.len
        (drop h.start (place_bytes (with_mbuf s x (Some (record { head = h; bytes = over (mbuf_of s x).bytes 0 b })))
        x o)) ≡ take h.len (drop h.start (place_bytes s x o)) → entry_from (with_mbuf s x (Some
        (record { head = h; bytes = over (mbuf_of s x).bytes 0 b }))) x h ≡ entry_from s x h)
        refl (λ e. λ i. record { bytes = e i; start = h.start; cluster = h.cluster })
        (subst (λ (o : Option ℕ). take h.len
        (drop h.start (place_bytes (with_mbuf s x (Some (record { head = h; bytes = over (mbuf_of s x).bytes 0 b })))
        x o)) ≡ take h.len (drop h.start (place_bytes s x o))) (sym is) refl)
    shown fit here None is =
        let bytes : take h.len (drop h.start (over (mbuf_of s x).bytes 0 b))
        ≡ take h.len (drop h.start (mbuf_of s x).bytes) =
        run_apart (mbuf_of s x).bytes 0 b h.start h.len
        (omega (arith, long, low_is h is, high_is h is, fit.low, fit.high, store.mbuf_bytes x out))
        (omega (arith, high_is h is, fit.high, store.mbuf_bytes x out))
        (inl (omega (arith, long, low_is h is, fit.low))) in
        λ i. record {
          bytes =
              (subst (λ (o : Option ℕ). take h.len
              (drop h.start (place_bytes (with_mbuf s x
              (Some (record {
                head = h;
                bytes = over (mbuf_of s x).bytes 0 b;
              }))) x o)) ≡ take h.len (drop h.start (place_bytes s x o))) (sym is)
              (ap (λ (v : MbufView). take h.len (drop h.start v.bytes)) here ∙ bytes)) i;
          start = h.start;
          cluster = h.cluster;
        }

pub head_set : (s t : StoreView) (x : ℕ) (h : Head) → is_out s x ≡ true → IsStore s → SetsHead s t x h → HeadSet s t x h
head_set s t x h out store (b, long, is) =
    subst (λ (u : StoreView). HeadSet s u x h) (sym is) (set_made s x h b out long store)

-- ---- a head of a live chain
pub record Reheaded (s t : StoreView) (c i x : ℕ) (h : Head) (f : Focused s c) : Type 0 where
  pub change : Changed s t c i x f
  pub head : mbuf_head t x ≡ h
  pub entry : entry_at t x ≡ entry_from s x h
  pub others : (k : ℕ) → k ≢ x → mbuf_head t k ≡ mbuf_head s k

pub rehead : (s t : StoreView) (c i x : ℕ) (h : Head) → (f : Focused s c) → Entered s c f i x → SetsHead s t x h
    → IsStore t → h.next ≡ (mbuf_head s x).next → h.cluster ≡ (mbuf_head s x).cluster → IsFit h
    → (0 < i → IsFollower (mbuf_head s x) → IsFollower h)
    → Reheaded s t c i x h f
rehead s t c i x h f e sets store next cluster fit follow =
    let set = head_set s t x h e.out f.sound.store sets in
    record {
      change = changed s t c i x f e.below e.cell set.outs store (record {
        next = ap (λ (y : Head). y.next) set.head ∙ next;
        cluster = ap (λ (y : Head). y.cluster) set.head ∙ cluster;
        out = set.out;
        fit = subst IsFit (sym set.head) fit;
      }) (λ k ne _ _. set.others k ne) (λ after was. subst IsFollower (sym set.head) (follow after was));
      head = set.head;
      entry = set.entry fit;
      others = λ k ne. (set.others k ne).head;
    }

-- the place of the first mbuf
pub enter_first : (s : StoreView) (c : ℕ) → (f : Focused s c) → Entered s c f 0 c
enter_first s c f =
    let some : 0 < weigh one f.cells = some_cell s f.cells f.chain in
    let inside : 0 < weigh (is_at c) f.cells =
    subst (λ (j : ℕ). 0 < weigh (is_at j) f.cells) f.first (in_list f.cells 0 some) in
    record {
      below = some;
      cell = f.first;
      inside = inside;
      out = first_out s c f;
      shows =
          ap (λ (v : ChainView). entry_of v 0) (sym f.shows)
          ∙ Rattle.mbuf_chain.proofs.Focused.entry_in s f.cells 0 some
          ∙ ap (entry_at s) f.first;
      fit =
          subst (λ (j : ℕ). IsFit (mbuf_head s j)) f.first
          (Rattle.mbuf_chain.proofs.Focused.fit_in s (Some c) f.cells 0 f.linked some);
    }

-- ---- a chain replaced by itself
pub with_self : (p : PoolView) (c : ℕ) → IsLive p c → with_chain p c (chain_of p c) ≡ p
with_self p c live =
    λ i. record { mbufs = p.mbufs; clusters = p.clusters; chains = insert_same p.chains c (chain_of p c) live i }

pub set_same : (es : List Entry) (i : ℕ) (e : Entry) → slice_index_or es i Rattle.mbuf_chain.specs.Chain.no_entry ≡ e
    → slice_set es i e ≡ es
set_same [] i e is = refl
set_same (y ∷ ys) zero e is = λ j. sym is j ∷ ys
set_same (y ∷ ys) (suc i) e is = ap (λ (l : List Entry). y ∷ l) (set_same ys i e is)

pub with_entry_same : (v : ChainView) (i : ℕ) (e : Entry) → entry_of v i ≡ e → with_entry v i e ≡ v
with_entry_same v i e is = λ j. record { front = v.front; entries = set_same v.entries i e is j; cells = v.cells }

-- ---- the packet length corrected
abbrev pub with_total : Head → ℕ → ℕ → PacketHeader → Head
with_total h added removed packet =
    record h { packet = Some (record { len = packet.len + added - removed; arrival = packet.arrival }) }

-- the head of a chain whose packet length is wrong: it's in use, and the corrected length fits
pub record Totalled (s : StoreView) (c added removed : ℕ) : Type 0 where
  pub out : is_out s c ≡ true
  pub fits : (packet : PacketHeader) → (mbuf_head s c).packet ≡ Some packet
      → (packet.len + added ≤ 134215680 + removed) × (removed ≤ packet.len + added)

pub total_known : (s : StoreView) (c added removed : ℕ) → IsOff s c added removed → IsLive (pool_of s) c
    → Totalled s c added removed
total_known s c added removed off live =
    let o = open_off s c added removed off live in
    record {
      out = first_out s c o.at;
      fits = λ packet is.
          let sum = o.totals.0 packet (ap (λ (j : ℕ). (mbuf_head s j).packet) o.at.first ∙ is) in
          let bound : weigh (len_at s) o.at.cells ≤ 134215680 =
          omega (
            arith,
            Rattle.mbuf_chain.proofs.Lists.bytes_bound s (Some c) o.at.cells o.at.linked,
            o.at.sound.total,
            Rattle.mbuf_chain.proofs.Lists.few_out s,
            o.at.sound.store.mbufs,
          ) in (
            omega (arith, sum, bound, off_here c added o.at.cells o.at.first, off_here c removed o.at.cells o.at.first),
            omega (arith, sum, off_here c added o.at.cells o.at.first, off_here c removed o.at.cells o.at.first),
          );
    }

pub total_right : (s : StoreView) (c added removed : ℕ) → IsOff s c added removed → IsLive (pool_of s) c
    → (mbuf_head s c).packet ≡ None → IsPool s
total_right s c added removed off live none =
    let o = open_off s c added removed off live in (
      o.at.cells ∷ o.at.rest,
      o.at.sound,
      (
        λ packet is. absurd (none-some packet
            (sym none ∙ ap (λ (j : ℕ). (mbuf_head s j).packet) (sym o.at.first) ∙ is)),
        rest_right s c added removed o.at.rest (alone_first s c o.at) o.totals.1,
      ),
    )

pub record IsSet (s t : StoreView) : Type 0 where
  pub pool : IsPool t
  pub same : pool_of t ≡ pool_of s

-- setting only the packet length
pub total_sets : (s t : StoreView) (c added removed : ℕ) (packet : PacketHeader) → (mbuf_head s c).packet ≡ Some packet
    → SetsHead s t c (with_packet_len (mbuf_head s c) (packet.len + added - removed))
    → SetsHead s t c (with_total (mbuf_head s c) added removed packet)
total_sets s t c added removed packet is sets =
    subst (λ (h : Head). SetsHead s t c h)
    (ap (λ (o : Option PacketHeader). record (mbuf_head s c)
    { packet = option_map {T = PacketHeader} (λ p. record p { len = packet.len + added - removed }) o }) is) sets

pub total_set : (s t : StoreView) (c added removed : ℕ) (packet : PacketHeader) → IsOff s c added removed
    → IsLive (pool_of s) c → (mbuf_head s c).packet ≡ Some packet
    → SetsHead s t c (with_total (mbuf_head s c) added removed packet) → IsStore t → IsSet s t
total_set s t c added removed packet off live is sets store =
    let o = open_off s c added removed off live in
    let f = o.at in
    let e = enter_first s c o.at in
    let h = with_total (mbuf_head s c) added removed packet in
    let low : head_room_low (with_total (mbuf_head s c) added removed packet) ≡ head_room_low (mbuf_head s c) =
    ap (λ (p : Option PacketHeader). cond {A = ℕ} (is_some (mbuf_head s c).cluster) 0 (cond (is_some p) 28 20)) (sym is)
    in
    let fit : IsFit (with_total (mbuf_head s c) added removed packet) =
    record { low = omega (arith, low, e.fit.low); high = e.fit.high; kind = e.fit.kind } in
    let r = rehead s t c 0 c h o.at e sets store refl refl fit (λ lt. absurd (omega arith)) in
    let front : front_of (mbuf_head t c) ≡ front_of (mbuf_head s c) = ap front_of r.head ∙ front_same is in
    record {
      pool = (
        f.cells ∷ f.rest,
        r.change.sound,
        (
          λ packet' is'.
              let here : Some (record { len = packet.len + added - removed; arrival = packet.arrival }) ≡ Some packet' =
              ap (λ (y : Head). y.packet) (sym r.head) ∙ ap (λ (j : ℕ). (mbuf_head t j).packet) (sym f.first) ∙ is' in
              omega (
                arith,
                ap (λ (q : PacketHeader). q.len) (same_Some _ _ here),
                o.totals.0 packet (ap (λ (j : ℕ). (mbuf_head s j).packet) f.first ∙ is),
                off_here c added f.cells f.first,
                off_here c removed f.cells f.first,
                r.change.lens,
                ap (λ (y : Head). y.len) r.head,
              ),
          rest_kept f r.change (rest_right s c added removed f.rest (alone_first s c f) o.totals.1),
        ),
      );
      same =
          changed_entry s t c 0 c f r.change front
          ∙ ap (with_chain (pool_of s) c)
          (with_entry_same (chain_of (pool_of s) c) 0 (entry_at t c) (e.shows ∙ sym r.entry))
          ∙ with_self (pool_of s) c live;
    }
  where
    front_same : (mbuf_head s c).packet ≡ Some packet
        → record { header = true; after = (mbuf_head s c).next_packet; tag = packet.arrival } ≡ front_of (mbuf_head s c)
    front_same e =
        λ i. record { header = is_some (sym e i); after = (mbuf_head s c).next_packet; tag = arrival_of (sym e i) }

    rest_kept : (f : Focused s c) → Changed s t c 0 c f → AllByRecursion (IsTotal s) f.rest
        → AllByRecursion (IsTotal t) f.rest
    rest_kept f went = went.totals

-- ---- an mbuf that loses some of its data bytes
pub place_long : (s : StoreView) (c i x : ℕ) → (f : Focused s c) → Entered s c f i x
    → length (place_bytes s x (mbuf_head s x).cluster) ≡ room_high (mbuf_head s x)
place_long s c i x f e = go (mbuf_head s x).cluster refl
  where
    go : (o : Option ℕ) → (mbuf_head s x).cluster ≡ o → length (place_bytes s x o) ≡ cond {A = ℕ} (is_some o) 2048 128
    go None is = f.sound.store.mbuf_bytes x e.out
    go (Some d) is =
        f.sound.store.cluster_bytes d (omega (
          arith,
          f.sound.counted d,
          refers_to s x d is,
          Rattle.mbuf_chain.proofs.Focused.weigh_has (refers_at s d) x f.cells e.inside,
        ))

pub entry_long : (s : StoreView) (c i x : ℕ) → (f : Focused s c) → Entered s c f i x
    → length (entry_at s x).bytes ≡ (mbuf_head s x).len
entry_long s c i x f e =
    run_length (place_bytes s x (mbuf_head s x).cluster) (mbuf_head s x).start (mbuf_head s x).len
    (omega (arith, place_long s c i x f e, e.fit.high))

-- a new head with other bytes of the same data area: the entry after it, and a packet length that is wrong
pub record Resized (s t : StoreView) (c added removed i : ℕ) (e : Entry) : Type 0 where
  pub off : IsOff t c added removed
  pub live : IsLive (pool_of t) c
  pub map_is : pool_of t ≡ with_chain (pool_of s) c (with_entry (chain_of (pool_of s) c) i e)

pub resized : (s t : StoreView) (c added removed start len : ℕ) (at : Place) → HasMbuf s c at
    → SetsHead s t at.cell (with_segment (mbuf_head s at.cell) start len) → IsStore t
    → head_room_low (mbuf_head s at.cell) ≤ start → start + len ≤ room_high (mbuf_head s at.cell)
    → len + removed ≡ (mbuf_head s at.cell).len + added
    → Resized s t c added removed at.index (entry_from s at.cell (with_segment (mbuf_head s at.cell) start len))
resized s t c added removed start len at has sets store low high lens =
    let o = open_on s c has.pool has.live in
    let e = enter s c at o.at has.place in
    let h = with_segment (mbuf_head s at.cell) start len in
    let r =
    rehead s t c at.index at.cell h o.at e sets store refl refl (record { low = low; high = high; kind = e.fit.kind })
    (λ _ was. record { packet = was.packet; after = was.after }) in
    let same : (k : ℕ) → (mbuf_head t k).packet ≡ (mbuf_head s k).packet = λ k. elim (cases_eq k at.cell) [
      | inl is ↦ subst (λ (j : ℕ). (mbuf_head t j).packet ≡ (mbuf_head s j).packet) (sym is)
          (ap (λ (y : Head). y.packet) r.head)
      | inr ne ↦ ap (λ (y : Head). y.packet) (r.others k ne)
    ] in
    let front : front_of (mbuf_head t c) ≡ front_of (mbuf_head s c) = elim (cases_eq c at.cell) [
      | inl is ↦ subst (λ (j : ℕ). front_of (mbuf_head t j) ≡ front_of (mbuf_head s j)) (sym is) (ap front_of r.head)
      | inr ne ↦ ap front_of (r.others c ne)
    ] in
    let map_is =
    changed_entry s t c at.index at.cell o.at r.change front
    ∙ ap (λ (y : Entry). with_chain (pool_of s) c (with_entry (chain_of (pool_of s) c) at.index y)) r.entry in
    record {
      off =
          off_after s t c at.index at.cell added removed o r.change (same c)
          (omega (arith, lens, ap (λ (y : Head). y.len) r.head));
      live = live_shown (pool_of s) (pool_of t) c _ map_is;
      map_is = map_is;
    }

-- the facts about the mbuf at a place
pub record Shown (s : StoreView) (c : ℕ) (at : Place) : Type 0 where
  pub out : is_out s at.cell ≡ true
  pub fit : IsFit (mbuf_head s at.cell)
  pub small : (mbuf_head s at.cell).start + (mbuf_head s at.cell).len ≤ 2048
  pub long : (mbuf_head s at.cell).len ≡ length (entry_of (chain_of (pool_of s) c) at.index).bytes
  pub place : length (place_bytes s at.cell (mbuf_head s at.cell).cluster) ≡ room_high (mbuf_head s at.cell)
  pub entry : entry_of (chain_of (pool_of s) c) at.index ≡ entry_at s at.cell

pub shown_at : {s : StoreView} {c : ℕ} {at : Place} → HasMbuf s c at → Shown s c at
shown_at {s} {c} {at} has =
    let o = open_on s c has.pool has.live in
    let e = enter s c at o.at has.place in
    record {
      out = e.out;
      fit = e.fit;
      small = omega (arith, e.fit.high, high_most (mbuf_head s at.cell).cluster);
      long = sym (entry_long s c at.index at.cell o.at e) ∙ ap (λ (y : Entry). length y.bytes) (sym e.shows);
      place = place_long s c at.index at.cell o.at e;
      entry = e.shows;
    }
  where
    high_most : (o : Option ℕ) → cond {A = ℕ} (is_some o) 2048 128 ≤ 2048
    high_most None = omega arith
    high_most (Some d) = omega arith

-- a narrowed entry
pub narrowed_is : (s : StoreView) (c skip keep : ℕ) (at : Place) → Shown s c at
    → skip + keep ≤ (mbuf_head s at.cell).len
    → entry_from s at.cell (with_segment (mbuf_head s at.cell) ((mbuf_head s at.cell).start + skip) keep)
    ≡ narrowed (entry_of (chain_of (pool_of s) c) at.index) skip keep
narrowed_is s c skip keep at k within =
    let h = mbuf_head s at.cell in
    (λ i. record {
      bytes = sym (run_inner (place_bytes s at.cell (mbuf_head s at.cell).cluster) (mbuf_head s at.cell).start
          (mbuf_head s at.cell).len skip keep (omega (arith, k.place, k.fit.high))
          within) i;
      start = h.start + skip;
      cluster = h.cluster;
    })
    ∙ ap (λ (y : Entry). narrowed y skip keep) (sym k.entry)

-- the entry of each mbuf of a live chain has the length that its head says
pub cell_long : (s : StoreView) (c k : ℕ) → (f : Focused s c) → 0 < weigh (is_at k) f.cells
    → length (entry_at s k).bytes ≡ (mbuf_head s k).len
cell_long s c k f p =
    run_length (place_bytes s k (mbuf_head s k).cluster) (mbuf_head s k).start (mbuf_head s k).len
    (omega (arith, long (mbuf_head s k).cluster refl, (fit (Some c) f.cells f.linked p).high))
  where
    fit : (at : Option ℕ) (l : List ℕ) → IsLinked s at l → 0 < weigh (is_at k) l → IsFit (mbuf_head s k)
    fit at [] h q = absurd (omega arith)
    fit at (x ∷ xs) h q = elim (cases_eq x k) [
      | inl e ↦ subst (λ (j : ℕ). IsFit (mbuf_head s j)) e h.2
      | inr ne ↦ fit (mbuf_head s x).next xs h.3 (omega (arith, Rattle.mbuf_chain.proofs.Lists.is_at_other k x ne))
    ]

    long : (o : Option ℕ) → (mbuf_head s k).cluster ≡ o → length (place_bytes s k o) ≡ cond {A = ℕ} (is_some o) 2048 128
    long None is = f.sound.store.mbuf_bytes k (bit (is_out s k) (omega (arith, f.sound.once k, p)))
    long (Some d) is =
        f.sound.store.cluster_bytes d (omega (
          arith,
          f.sound.counted d,
          refers_to s k d is,
          Rattle.mbuf_chain.proofs.Focused.weigh_has (refers_at s d) k f.cells p,
        ))
