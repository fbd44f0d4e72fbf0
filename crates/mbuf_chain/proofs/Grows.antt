-- An mbuf that gets more data bytes, written next to the ones it has.
use Rattle.std.proofs.Common.{◌≡◌, ℕ, zero, suc, Bool, true, false, [], ◌∷◌, slice_index, ◌+◌, ◌-◌, ◌<◌, ◌≤◌, cond, List, length, Option, None, Some, is_some, refl, sym, ap, ◌∙◌, subst, arith, inl, inr}
use Rattle.std.proofs.lemmas.Bool.{cases_eq, eq-eqb, ne_eqb}
use Rattle.mbuf_pool.specs.Cells.{Head, PacketHeader}
use Rattle.mbuf_pool.specs.Store.{StoreView, mbuf_head, is_out}
use Rattle.mbuf_chain.specs.declared.place.Place.{Place}
use Rattle.mbuf_chain.specs.Chain.{Entry, chain_of, with_chain, entry_of, room_start, room_end, leading_space, trailing_space}
use Rattle.mbuf_chain.specs.Steps.{with_entry, with_front, with_back}
use Rattle.mbuf_chain.specs.Inside.Access.{HasMbuf, Written}
use Rattle.mbuf_chain.specs.Inside.Cells.{weigh, one, entry_from, IsFollower, AllFollow, IsChain, pool_of, head_room_low, room_high, with_segment}
use Rattle.mbuf_chain.proofs.Focused.{open_on, enter}
use Rattle.mbuf_chain.proofs.Heads.{shown_at}
use Rattle.mbuf_chain.proofs.Places.{header_is}
use Rattle.mbuf_chain.proofs.Writes.{grown, grown_back, grown_front, grown_is, high_seen}

most : (o : Option ℕ) → cond {A = ℕ} (is_some o) 2048 128 ≤ 2048
most None = omega arith
most (Some d) = omega arith

-- ---- bytes added after the data
pub record FitsAfter (s : StoreView) (at : Place) (h : Head) (n : ℕ) : Type 0 where
  pub out : is_out s at.cell ≡ true
  pub low : head_room_low (mbuf_head s at.cell) ≤ h.start + h.len
  pub high : h.start + h.len + n ≤ room_high (mbuf_head s at.cell)
  pub small : room_high (mbuf_head s at.cell) ≤ 2048

pub fits_after : {s : StoreView} {c n : ℕ} {at : Place} {h : Head} → HasMbuf s c at → h ≡ mbuf_head s at.cell
    → (entry_of (chain_of (pool_of s) c) at.index).start + length (entry_of (chain_of (pool_of s) c) at.index).bytes + n
    ≤ room_end (entry_of (chain_of (pool_of s) c) at.index) → FitsAfter s at h n
fits_after {s} {c} {n} {at} {h} has e fits =
    let k = shown_at has in
    record {
      out = k.out;
      low = omega (arith, k.fit.low, ap (λ (y : Head). y.start) e);
      high =
          omega (
            arith,
            fits,
            k.long,
            ap (λ (y : Entry). y.start) k.entry,
            high_seen s c at k,
            ap (λ (y : Head). y.start) e,
            ap (λ (y : Head). y.len) e,
          );
      small = most (mbuf_head s at.cell).cluster;
    }

pub record ReadyAfter (s t : StoreView) (c n : ℕ) (at : Place) (h : Head) (ws : List ℕ) : Type 0 where
  pub place : HasMbuf t c at
  pub low : head_room_low (mbuf_head t at.cell) ≤ h.start
  pub high : h.start + (h.len + n) ≤ room_high (mbuf_head t at.cell)
  pub done : (u : StoreView) → pool_of u
      ≡ with_chain (pool_of t) c (with_entry (chain_of (pool_of t) c) at.index
      (entry_from t at.cell (with_segment (mbuf_head t at.cell) h.start (h.len + n))))
      → pool_of u ≡ with_chain (pool_of s) c
      (with_entry (chain_of (pool_of s) c) at.index (with_back (entry_of (chain_of (pool_of s) c) at.index) ws))

pub ready_after : {s t : StoreView} {c n : ℕ} {at : Place} {h : Head} {ws : List ℕ} → HasMbuf s c at
    → h ≡ mbuf_head s at.cell
    → (entry_of (chain_of (pool_of s) c) at.index).start + length (entry_of (chain_of (pool_of s) c) at.index).bytes + n
    ≤ room_end (entry_of (chain_of (pool_of s) c) at.index) → n ≡ length ws
    → Written s t c at (h.start + h.len) ws → ReadyAfter s t c n at h ws
ready_after {s} {t} {c} {n} {at} {h} {ws} has e fits count w =
    subst (λ (y : Head). ReadyAfter s t c n at y ws) (sym e)
    (go (subst (λ (y : Head). Written s t c at (y.start + y.len) ws) e w)
    (fits_after has refl fits))
  where
    go : Written s t c at ((mbuf_head s at.cell).start + (mbuf_head s at.cell).len) ws
        → FitsAfter s at (mbuf_head s at.cell) n → ReadyAfter s t c n at (mbuf_head s at.cell) ws
    go w' f =
        let k = shown_at has in
        let g =
        grown s t c ((mbuf_head s at.cell).start + (mbuf_head s at.cell).len) ws at has w'
        (omega (arith, f.high, count)) (inl (omega arith)) in
        record {
          place = g.place;
          low = omega (arith, ap head_room_low g.head, k.fit.low);
          high = omega (arith, ap room_high g.head, f.high);
          done =
              λ u change. grown_is s t u c at _ _ g.same change
              (grown_back s t c n ws at k w'.writes count (omega (arith, f.high, count)));
        }

-- ---- bytes added before the data
-- an mbuf after the first of its chain has no packet header
follows : (s : StoreView) (l : List ℕ) (i : ℕ) → IsChain s l → 0 < i → i < weigh one l
    → IsFollower (mbuf_head s (slice_index l i))
follows s l i h lt within = go l i h lt within
  where
    inside : (xs : List ℕ) (j : ℕ) → AllFollow s xs → j < weigh one xs → IsFollower (mbuf_head s (slice_index xs j))
    inside [] j g q = absurd (omega arith)
    inside (x ∷ xs) zero g q = g.0
    inside (x ∷ xs) (suc j) g q = inside xs j g.1 (omega arith)

    go : (xs : List ℕ) (j : ℕ) → IsChain s xs → 0 < j → j < weigh one xs → IsFollower (mbuf_head s (slice_index xs j))
    go [] j g p q = absurd g
    go (x ∷ xs) zero g p q = absurd (omega arith)
    go (x ∷ xs) (suc j) g p q = inside xs j g.1 (omega arith)

pub low_seen : {s : StoreView} {c : ℕ} {at : Place} → HasMbuf s c at
    → head_room_low (mbuf_head s at.cell) ≡ room_start (chain_of (pool_of s) c) at.index
low_seen {s} {c} {at} has =
    let k = shown_at has in
    let o = open_on s c has.pool has.live in
    let e = enter s c at o.at has.place in
    ap (λ (y : Entry). cond {A = ℕ} (is_some y.cluster) 0 (cond (is_some (mbuf_head s at.cell).packet) 28 20))
    (sym k.entry)
    ∙ ap (cond (is_some (entry_of (chain_of (pool_of s) c) at.index).cluster) 0) (elim (cases_eq at.index 0) [
      | inl zero_is ↦ ap (λ (b : Bool). cond {A = ℕ} b 28 20)
          (ap (λ (j : ℕ). is_some (mbuf_head s j).packet)
          (sym e.cell ∙ ap (slice_index o.at.cells) zero_is ∙ o.at.first)
          ∙ header_is s c has.pool has.live)
          ∙ sym (ap (λ (b : Bool). cond (chain_of (pool_of s) c).front.header (cond {A = ℕ} b 28 20) 20)
          (eq-eqb at.index 0 zero_is))
      | inr ne ↦ ap (λ (p : Option PacketHeader). cond {A = ℕ} (is_some p) 28 20)
          (subst (λ (j : ℕ). (mbuf_head s j).packet ≡ None) e.cell
          (follows s o.at.cells at.index o.at.chain (omega arith) e.below).packet)
          ∙ sym (ap (λ (b : Bool). cond (chain_of (pool_of s) c).front.header (cond {A = ℕ} b 28 20) 20)
          (ne_eqb at.index 0 ne) ∙ both (chain_of (pool_of s) c).front.header)
    ])
  where
    both : (b : Bool) → cond {A = ℕ} b 20 20 ≡ 20
    both true = refl
    both false = refl

pub record FitsBefore (s : StoreView) (at : Place) (h : Head) (n : ℕ) : Type 0 where
  pub out : is_out s at.cell ≡ true
  pub less : n ≤ h.start
  pub low : head_room_low (mbuf_head s at.cell) ≤ h.start - n
  pub high : h.start - n + n ≤ room_high (mbuf_head s at.cell)
  pub few : n ≤ 2048
  pub most : h.len + n ≤ 4096

pub fits_before : {s : StoreView} {c n : ℕ} {at : Place} {h : Head} → HasMbuf s c at → h ≡ mbuf_head s at.cell
    → room_start (chain_of (pool_of s) c) at.index + n ≤ (entry_of (chain_of (pool_of s) c) at.index).start
    → FitsBefore s at h n
fits_before {s} {c} {n} {at} {h} has e fits =
    let k = shown_at has in
    let low = low_seen has in
    record {
      out = k.out;
      less = omega (arith, fits, ap (λ (y : Entry). y.start) k.entry, ap (λ (y : Head). y.start) e);
      low = omega (arith, fits, low, ap (λ (y : Entry). y.start) k.entry, ap (λ (y : Head). y.start) e);
      high = omega (arith, fits, k.fit.high, ap (λ (y : Entry). y.start) k.entry, ap (λ (y : Head). y.start) e);
      few = omega (arith, fits, k.fit.high, most (mbuf_head s at.cell).cluster, ap (λ (y : Entry). y.start) k.entry);
      most =
          omega (
            arith,
            fits,
            k.fit.high,
            most (mbuf_head s at.cell).cluster,
            ap (λ (y : Entry). y.start) k.entry,
            ap (λ (y : Head). y.len) e,
          );
    }

pub record ReadyBefore (s t : StoreView) (c n : ℕ) (at : Place) (h : Head) (ws : List ℕ) : Type 0 where
  pub place : HasMbuf t c at
  pub low : head_room_low (mbuf_head t at.cell) ≤ h.start - n
  pub high : h.start - n + (h.len + n) ≤ room_high (mbuf_head t at.cell)
  pub done : (u : StoreView) → pool_of u
      ≡ with_chain (pool_of t) c (with_entry (chain_of (pool_of t) c) at.index
      (entry_from t at.cell (with_segment (mbuf_head t at.cell) (h.start - n) (h.len + n))))
      → pool_of u ≡ with_chain (pool_of s) c
      (with_entry (chain_of (pool_of s) c) at.index (with_front (entry_of (chain_of (pool_of s) c) at.index) ws))

pub ready_before : {s t : StoreView} {c n : ℕ} {at : Place} {h : Head} {ws : List ℕ} → HasMbuf s c at
    → h ≡ mbuf_head s at.cell
    → room_start (chain_of (pool_of s) c) at.index + n ≤ (entry_of (chain_of (pool_of s) c) at.index).start
    → n ≡ length ws → Written s t c at (h.start - n) ws → ReadyBefore s t c n at h ws
ready_before {s} {t} {c} {n} {at} {h} {ws} has e fits count w =
    subst (λ (y : Head). ReadyBefore s t c n at y ws) (sym e)
    (go (subst (λ (y : Head). Written s t c at (y.start - n) ws) e w)
    (fits_before has refl fits))
  where
    go : Written s t c at ((mbuf_head s at.cell).start - n) ws → FitsBefore s at (mbuf_head s at.cell) n
        → ReadyBefore s t c n at (mbuf_head s at.cell) ws
    go w' f =
        let k = shown_at has in
        let g =
        grown s t c ((mbuf_head s at.cell).start - n) ws at has w' (omega (arith, f.high, count))
        (inr (omega (arith, f.less, count))) in
        record {
          place = g.place;
          low = omega (arith, ap head_room_low g.head, f.low);
          high = omega (arith, ap room_high g.head, k.fit.high, f.less);
          done =
              λ u change. grown_is s t u c at _ _ g.same change
              (grown_front s t c n ((mbuf_head s at.cell).start - n) ws at k w'.writes count (omega (arith, f.less, count)));
        }

-- ---- the free bytes before and after the data, by the head
pub record Rooms (s : StoreView) (c : ℕ) (at : Place) (h : Head) : Type 0 where
  pub out : is_out s at.cell ≡ true
  pub start : h.start ≡ (entry_of (chain_of (pool_of s) c) at.index).start
  pub len : h.len ≡ length (entry_of (chain_of (pool_of s) c) at.index).bytes
  pub cluster : h.cluster ≡ (entry_of (chain_of (pool_of s) c) at.index).cluster
  pub low : head_room_low h ≤ h.start
  pub low_is : head_room_low h ≡ room_start (chain_of (pool_of s) c) at.index
  pub high : h.start + h.len ≤ room_high h
  pub high_is : room_high h ≡ room_end (entry_of (chain_of (pool_of s) c) at.index)

pub rooms_at : {s : StoreView} {c : ℕ} {at : Place} {h : Head} → HasMbuf s c at → h ≡ mbuf_head s at.cell
    → Rooms s c at h
rooms_at {s} {c} {at} {h} has e =
    let k = shown_at has in
    record {
      out = k.out;
      start = ap (λ (y : Head). y.start) e ∙ ap (λ (y : Entry). y.start) (sym k.entry);
      len = ap (λ (y : Head). y.len) e ∙ k.long;
      cluster = ap (λ (y : Head). y.cluster) e ∙ ap (λ (y : Entry). y.cluster) (sym k.entry);
      low = subst (λ (y : Head). head_room_low y ≤ y.start) (sym e) k.fit.low;
      low_is = ap head_room_low e ∙ low_seen has;
      high = subst (λ (y : Head). y.start + y.len ≤ room_high y) (sym e) k.fit.high;
      high_is = ap room_high e ∙ high_seen s c at k;
    }

-- n bytes are free before the data of an entry
pub record FrontReported (s : StoreView) (c : ℕ) (at : Place) (n : ℕ) : Type 0 where
  pub value : n ≡ leading_space (chain_of (pool_of s) c) at.index
  pub within : room_start (chain_of (pool_of s) c) at.index + n ≤ (entry_of (chain_of (pool_of s) c) at.index).start

pub front_then : (s : StoreView) (c : ℕ) (at : Place) (h : Head) → Rooms s c at h → is_some h.cluster ≡ true
    → FrontReported s c at 0
front_then s c at h r some = record {
  value =
      sym (ap (λ (z : Bool). cond {A = ℕ} z 0
      ((entry_of (chain_of (pool_of s) c) at.index).start - room_start (chain_of (pool_of s) c) at.index)) (ap
      (λ (o : Option ℕ). is_some o) (sym r.cluster) ∙ some));
  within = omega (arith, r.low, r.low_is, r.start);
}

pub record FrontElse (s : StoreView) (c : ℕ) (at : Place) (h : Head) (d : ℕ) : Type 0 where
  pub less : d ≤ h.start
  pub reported : FrontReported s c at (h.start - d)

pub front_else : (s : StoreView) (c d : ℕ) (at : Place) (h : Head) → Rooms s c at h → is_some h.cluster ≡ false
    → d ≡ cond {A = ℕ} (is_some h.packet) 28 20 → FrontElse s c at h d
front_else s c d at h r none is =
    let low : head_room_low h ≡ d = ap (λ (z : Bool). cond {A = ℕ} z 0 (cond (is_some h.packet) 28 20)) none ∙ sym is in
    record {
      less = omega (arith, r.low, low);
      reported = record {
        value =
            sym (ap (λ (z : Bool). cond {A = ℕ} z 0
            ((entry_of (chain_of (pool_of s) c) at.index).start - room_start (chain_of (pool_of s) c) at.index)) (ap
            (λ (o : Option ℕ). is_some o) (sym r.cluster) ∙ none)
            ∙ (λ i. sym r.start i - (sym r.low_is ∙ low) i));
        within = omega (arith, r.low, low, r.low_is, r.start);
      };
    }

pub record BackReported (s : StoreView) (c : ℕ) (at : Place) (n : ℕ) : Type 0 where
  pub value : n ≡ trailing_space (entry_of (chain_of (pool_of s) c) at.index)
  pub within : (entry_of (chain_of (pool_of s) c) at.index).start
      + length (entry_of (chain_of (pool_of s) c) at.index).bytes + n
      ≤ room_end (entry_of (chain_of (pool_of s) c) at.index)

pub back_then : (s : StoreView) (c : ℕ) (at : Place) (h : Head) → Rooms s c at h → is_some h.cluster ≡ true
    → BackReported s c at 0
back_then s c at h r some = record {
  value =
      sym (ap (λ (z : Bool). cond {A = ℕ} z 0
      (128 - (entry_of (chain_of (pool_of s) c) at.index).start
      - length (entry_of (chain_of (pool_of s) c) at.index).bytes)) (ap (λ (o : Option ℕ). is_some o) (sym
      r.cluster) ∙ some));
  within = omega (arith, r.high, r.high_is, r.start, r.len);
}

pub record BackElse (s : StoreView) (c : ℕ) (at : Place) (h : Head) : Type 0 where
  pub less : h.start ≤ 128
  pub fits : h.len ≤ 128 - h.start
  pub reported : BackReported s c at (128 - h.start - h.len)

pub back_else : (s : StoreView) (c : ℕ) (at : Place) (h : Head) → Rooms s c at h → is_some h.cluster ≡ false
    → BackElse s c at h
back_else s c at h r none =
    let high : room_high h ≡ 128 = ap (λ (z : Bool). cond {A = ℕ} z 2048 128) none in
    record {
      less = omega (arith, r.high, high);
      fits = omega (arith, r.high, high);
      reported = record {
        value =
            sym (ap (λ (z : Bool). cond {A = ℕ} z 0
            (128 - (entry_of (chain_of (pool_of s) c) at.index).start
            - length (entry_of (chain_of (pool_of s) c) at.index).bytes)) (ap (λ (o : Option ℕ). is_some o) (sym
            r.cluster) ∙ none)
            ∙ (λ i. 128 - sym r.start i - sym r.len i));
        within = omega (arith, r.high, high, r.high_is, r.start, r.len);
      };
    }
