-- A walk that reads the mbufs of a live chain.
use Rattle.std.proofs.Common.{◌≡◌, ℕ, ◌<◌, true, cond, List, ◌∷◌, length, map, take, drop, Option, None, Some, is_some, refl, sym, ap, ◌∙◌, subst, arith}
use Rattle.mbuf_pool.specs.Cells.{Head, head_size}
use Rattle.mbuf_pool.specs.Store.{StoreView, is_out, mbuf_of, mbuf_head, cluster_of, cluster_count, IsRoom, IsPart, bytes_in, stored_part}
use Rattle.mbuf_chain.specs.Chain.{Entry, ChainView, chain_of, entry_of, IsLive, layout_of}
use Rattle.mbuf_chain.specs.declared.place.Place.{Place}
use Rattle.mbuf_chain.specs.Inside.Access.{HasMbuf}
use Rattle.mbuf_chain.specs.Inside.Cells.{weigh, entry_at, entry_from, place_bytes, refers_at, buffer_of, pool_of, IsPool, head_room_low, room_high}
use Rattle.mbuf_chain.specs.Pieces.{pieces_of}
use Rattle.mbuf_chain.specs.Inside.Readable.{entries_from, IsReadable, data_of}
use Rattle.mbuf_chain.proofs.Lists.{Walked, walk_on}
use Rattle.mbuf_chain.proofs.Focused.{open_on, freeable, enter, weigh_has}
use Rattle.mbuf_pool.proofs.Laws.{counted_within}
use Rattle.mbuf_chain.proofs.Stores.{refers_to}
use Rattle.mbuf_chain.proofs.Bytes.{run_length}

-- ---- the start of a walk
pub readable : (s : StoreView) (c : ℕ) → IsPool s → IsLive (pool_of s) c → IsReadable s (Some c)
readable s c pool live =
    let f = freeable s c (open_on s c pool live).at in
    record { whole = f.whole; store = f.store; counted = f.counted }

pub entries_are : (s : StoreView) (c : ℕ) → IsPool s → IsLive (pool_of s) c
    → entries_from s (Some c) ≡ (chain_of (pool_of s) c).entries
entries_are s c pool live =
    let f = (open_on s c pool live).at in
    ap (map (entry_at s)) f.walks ∙ ap (λ (v : ChainView). v.entries) f.shows

-- the cluster to which an mbuf of a live chain refers is a cluster of the pool
pub cluster_known : {s : StoreView} {c : ℕ} {at : Place} → HasMbuf s c at → (d : ℕ)
    → (entry_of (chain_of (pool_of s) c) at.index).cluster ≡ Some d
    → d < length s.clusters
cluster_known {s} {c} {at} has d is =
    let f = (open_on s c has.pool has.live).at in
    let e = enter s c at f has.place in
    let refers : (mbuf_head s at.cell).cluster ≡ Some d = ap (λ (x : Entry). x.cluster) (sym e.shows) ∙ is in
    counted_within s d (omega (
      arith,
      refers_to s at.cell d refers,
      weigh_has (refers_at s d) at.cell f.cells e.inside,
      f.sound.counted d,
    ))

-- ---- one step
-- the facts about the next mbuf, whose head is h
pub record Reads (s : StoreView) (at : Option ℕ) (i : ℕ) (h : Head) : Type 0 where
  pub out : is_out s i ≡ true
  pub part : IsPart s (data_of i h)
  pub entries : entries_from s at ≡ entry_from s i h ∷ entries_from s h.next
  pub bytes : stored_part s (data_of i h) ≡ (entry_from s i h).bytes
  pub long : h.len ≡ length (entry_from s i h).bytes
  pub rest : IsReadable s h.next

reads_head : (s : StoreView) (at : Option ℕ) (i : ℕ) → at ≡ Some i → IsReadable s at → Reads s at i (mbuf_head s i)
reads_head s at i is r =
    let w = walk_on s at i is r.whole in
    let h = mbuf_head s i in
    record {
      out = w.out;
      part = room w (mbuf_head s i).cluster refl;
      entries = ap (map (entry_at s)) w.cells;
      bytes = bytes (mbuf_head s i).cluster;
      long = long w (mbuf_head s i).cluster refl;
      rest =
          record {
            whole = w.whole;
            store = r.store;
            counted = λ c. omega (arith, r.counted c, ap (weigh (refers_at s c)) w.cells);
          };
    }
  where
    counted : (c : ℕ) → Walked s at i → (mbuf_head s i).cluster ≡ Some c → 0 < cluster_count s c
    counted c w e = omega (arith, r.counted c, ap (weigh (refers_at s c)) w.cells, refers_to s i c e)

    low : (mbuf_head s i).cluster ≡ None → head_room_low (mbuf_head s i) ≡ head_size (mbuf_head s i)
    low e =
        ap (λ (o : Option ℕ). cond {A = ℕ} (is_some o) 0 (cond (is_some (mbuf_head s i).packet) 28 20)) e
        ∙ sym (ap (λ (o : Option ℕ). cond {A = ℕ} (is_some o) 32 (cond (is_some (mbuf_head s i).packet) 28 20)) e)

    high : (o : Option ℕ) → (mbuf_head s i).cluster ≡ o → room_high (mbuf_head s i) ≡ cond {A = ℕ} (is_some o) 2048 128
    high o e = ap (λ (o : Option ℕ). cond {A = ℕ} (is_some o) 2048 128) e

    room : Walked s at i → (o : Option ℕ) → (mbuf_head s i).cluster ≡ o
        → IsRoom s (buffer_of i o) (mbuf_head s i).start (mbuf_head s i).len
    room w None e = (w.out, e, omega (arith, low e, w.fit.low), omega (arith, high None e, w.fit.high))
    room w (Some c) e = (counted c w e, omega (arith, high (Some c) e, w.fit.high))

    bytes : (o : Option ℕ) → take (mbuf_head s i).len (drop (mbuf_head s i).start (bytes_in s (buffer_of i o)))
        ≡ take (mbuf_head s i).len (drop (mbuf_head s i).start (place_bytes s i o))
    bytes None = refl
    bytes (Some c) = refl

    long : Walked s at i → (o : Option ℕ) → (mbuf_head s i).cluster ≡ o
        → (mbuf_head s i).len ≡ length (take (mbuf_head s i).len (drop (mbuf_head s i).start (place_bytes s i o)))
    long w None e =
        sym (run_length (mbuf_of s i).bytes (mbuf_head s i).start (mbuf_head s i).len
        (omega (arith, high None e, w.fit.high, r.store.mbuf_bytes i w.out)))
    long w (Some c) e =
        sym (run_length (cluster_of s c).bytes (mbuf_head s i).start (mbuf_head s i).len
        (omega (arith, high (Some c) e, w.fit.high, r.store.cluster_bytes c (counted c w e))))

pub reads : (s : StoreView) (at : Option ℕ) (i : ℕ) (h : Head) → at ≡ Some i → IsReadable s at → h ≡ mbuf_head s i
    → Reads s at i h
reads s at i h is r head = subst (Reads s at i) (sym head) (reads_head s at i is r)

-- ---- the items of the iterators
pub next_entry : (s : StoreView) (at : Option ℕ) (i : ℕ) (h : Head) → Reads s at i h
    → layout_of (entries_from s at) ≡ (h.len, h.cluster) ∷ layout_of (entries_from s h.next)
next_entry s at i h r =
    ap layout_of r.entries ∙ ap (λ (n : ℕ). (n, h.cluster) ∷ layout_of (entries_from s h.next)) (sym r.long)

pub next_piece : (s : StoreView) (at : Option ℕ) (i : ℕ) (h : Head) (bs : List ℕ) → Reads s at i h
    → bs ≡ stored_part s (data_of i h) → pieces_of (entries_from s at) ≡ bs ∷ pieces_of (entries_from s h.next)
next_piece s at i h bs r is =
    ap pieces_of r.entries ∙ ap (λ (xs : List ℕ). xs ∷ pieces_of (entries_from s h.next)) (sym (is ∙ r.bytes))

-- one item fewer is left
pub one_less : {X : Type 0} (xs ys : List X) (x : X) → xs ≡ x ∷ ys → length ys < length xs
one_less xs ys x e = omega (arith, ap length e)
