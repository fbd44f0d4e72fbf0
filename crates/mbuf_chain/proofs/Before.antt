-- A new mbuf with a packet header before a chain, and the bytes that are written to it after its head.
use Rattle.std.proofs.Common.{◌≡◌, ◌≢◌, ℕ, ◌+◌, ◌<◌, ◌≤◌, true, false, not, cond, ◌&&◌, List, [], ◌∷◌, length, Option, None, Some, refl, sym, ap, ◌∙◌, subst, arith, inl, inr, take, drop}
use Rattle.std.specs.FinMap as finmap
use Rattle.std.specs.FinMap.{FinMap}
use Rattle.std.specs.Ordering.{nat_cmp}
use Rattle.std.proofs.lemmas.Bool.{cases_eq}
use Rattle.std.proofs.lemmas.Option.{none-some, same_Some}
use Rattle.mbuf_pool.specs.Cells.{Head, PacketHeader, over}
use Rattle.mbuf_pool.specs.Store.{StoreView, IsStore, mbuf_of, mbuf_head, is_out}
use Rattle.mbuf_chain.specs.Chain.{Adds, Entry, ChainView, PoolView, IsLive, IsPlace, alone, chain_of, entry_of, string, with_chain, without}
use Rattle.mbuf_chain.specs.Steps.{joined, one_mbuf, with_entry}
use Rattle.mbuf_chain.specs.Inside.Access.{CanWrite, HasChain}
use Rattle.mbuf_chain.specs.Inside.Cells.{IsFit, IsPool, IsLinked, AllFollow, Taken, WritesPlace, cells_from, entry_at, entry_from, entry_over, first_of, front_of, head_before, head_room_low, is_at, is_pointed, out_at, place_bytes, pool_of, read_chain, room_high, view_of, weigh, weigh_all}
use Rattle.mbuf_chain.proofs.Maps.{get_left, insert-insert, remove-insert}
use Rattle.mbuf_chain.proofs.Lists.{chains_of, is_at_other, is_at_same, off, on, out_below}
use Rattle.mbuf_chain.proofs.Changes.{SameCell, follow_kept, get-view_of, links_kept, list_kept, step, view_is}
use Rattle.mbuf_chain.proofs.Focused.{first_out, open_on, whole_of}
use Rattle.mbuf_chain.proofs.Along.{all_bytes}
use Rattle.mbuf_chain.proofs.Bytes.{run_written}
use Rattle.mbuf_chain.proofs.Joins.{all_follow, bare_first, bytes_are, sum_is}
use Rattle.mbuf_chain.proofs.Made.{NewMbuf, counted_in, new_plain}
use Rattle.mbuf_chain.proofs.Filled.{only}
use Rattle.mbuf_chain.proofs.Laws.Owners.{shown_with}
use Rattle.mbuf_chain.proofs.Laws.Steps.{live_shown}

-- the chain of an mbuf before it
abbrev pub IsPut : PoolView → ℕ → PoolView → ℕ → ChainView → Type 0
IsPut p b r i v = Adds (without p b) r i (joined v (chain_of p b))

-- ---- the new mbuf
pub record IsBefore (s t : StoreView) (i b : ℕ) (v : ChainView) : Type 0 where
  pub pool : IsPool t
  pub adds : IsPut (pool_of s) b (pool_of t) i v

before : (s t : StoreView) (i b : ℕ) (h : Head) → HasChain s b → (chain_of (pool_of s) b).front ≡ alone false
    → NewMbuf s t i h → h.next ≡ Some b → IsFit h
    → ((packet : PacketHeader) → h.packet ≡ Some packet
    → packet.len ≡ h.len + length (string (chain_of (pool_of s) b)))
    → IsBefore s t i b (record { front = front_of h; entries = entry_at t i ∷ []; cells = i ∷ [] })
before s t i b h has bare_b n next fit total =
    let o = open_on s b has.pool has.live in
    let f = o.at in
    let lists : List (List ℕ) = f.cells ∷ f.rest in
    let kept : (k : ℕ) → 0 < weigh_all (is_at k) lists → SameCell s t k =
    λ k p. n.kept k (λ e. absurd (omega (
      arith,
      f.sound.once i,
      off (is_out s i) n.fresh,
      subst (λ (j : ℕ). 0 < weigh_all (is_at j) lists) e p,
    ))) (λ c is. counted_in s lists f.sound k c p is) in
    let inside : (k : ℕ) → 0 < weigh (is_at k) f.cells → SameCell s t k = λ k p. kept k (omega (arith, p)) in
    let linked : IsLinked t (Some b) f.cells = links_kept s t (Some b) f.cells inside f.linked in
    let follow : AllFollow t f.cells =
    follow_kept s t f.cells (λ k p. (inside k p).head)
    (all_follow s f.cells f.chain
    (bare_first (mbuf_head s (first_of f.cells)) (ap (λ (v : ChainView). v.front) f.shows ∙ bare_b))) in
    let list = list_kept s t f.cells inside in
    let went = step s t (f.cells ∷ []) ((i ∷ f.cells) ∷ []) f.rest f.sound (record {
      kept = λ k p. kept k (omega (arith, p));
      linked = (
        (
          (
            refl,
            n.out,
            subst IsFit (sym n.head) fit,
            subst (λ (o : Option ℕ). IsLinked t o f.cells) (sym (ap (λ (y : Head). y.next) n.head ∙ next)) linked,
          ),
          follow,
        ),
        tt,
      );
      once = λ k. elim (cases_eq k i) [
        | inl e ↦ subst (λ (j : ℕ). weigh_all (is_at j) ((i ∷ f.cells) ∷ []) + out_at s j
            ≡ weigh_all (is_at j) (f.cells ∷ []) + out_at t j) (sym e)
            (omega (arith, is_at_same i, off (is_out s i) n.fresh, on (is_out t i) n.out))
        | inr ne ↦ omega (arith, is_at_other k i (λ e. ne (sym e)), ap {B = ℕ} (λ b. cond b 1 0) (n.outs k ne))
      ];
      total = omega (arith, n.total);
      counted = λ c. omega (arith, n.counts c, list.counted c);
      store = n.store;
    }) in
    let none : finmap.get (view_of s) i ≡ None =
    get-view_of s i ∙ ap (λ b. cond (b && not (is_pointed (length s.mbufs) s i))
    (Some (read_chain s (cells_from s (Some i)))) None) n.fresh in
    let apart : i ≢ b =
    λ e. none-some (chain_of (pool_of s) b) (sym none ∙ ap (finmap.get (view_of s)) e ∙ has.live) in
    record {
      pool = (
        (i ∷ f.cells) ∷ f.rest,
        went.sound,
        (
          λ packet is. omega (
            arith,
            total packet (ap (λ (y : Head). y.packet) (sym n.head) ∙ is),
            ap (λ (y : Head). y.len) n.head,
            list.lens,
            bytes_are s b f,
          ),
          went.totals o.totals.1,
        ),
      );
      adds = record {
        fresh = get_left (view_of s) b i apart ∙ none;
        pool = λ j. record {
          mbufs = n.mbufs j;
          clusters = n.clusters j;
          chains = (view_is t _ went.sound
              ∙ ap (λ (m : FinMap nat_cmp ChainView). finmap.insert m i (read_chain t (i ∷ f.cells)))
              (went.map_is ∙ sym (remove-insert (chains_of s f.rest) b (chain_of (pool_of s) b) f.fresh)
              ∙ ap (λ (m : FinMap nat_cmp ChainView). finmap.remove m b) (sym f.map_is))
              ∙ (λ k. finmap.insert (finmap.remove (view_of s) b) i (record {
                front = front_of (n.head k);
                entries = entry_at t i ∷ (list.entries ∙ ap (λ (v : ChainView). v.entries) f.shows) k;
                cells = i ∷ (f.shows k).cells;
              }))) j;
        };
      };
    }

-- ---- the bytes written to it
-- what the write needs, and the pool after it
pub record Blank (s t : StoreView) (i b start : ℕ) (ws : List ℕ) : Type 0 where
  pub can : CanWrite t i (only i)
  pub cluster : None ≡ (mbuf_head t i).cluster
  pub low : head_room_low (mbuf_head t i) ≤ start
  pub high : start + length ws ≤ room_high (mbuf_head t i)
  pub done : (u : StoreView) → WritesPlace t u i (only i) start ws
      → IsPut (pool_of s) b (pool_of u) i (one_mbuf true (record { bytes = ws; start = start; cluster = None }) i)

pub blank : (s u : StoreView) (i b start len : ℕ) (ws : List ℕ) → HasChain s b
    → (chain_of (pool_of s) b).front ≡ alone false → Taken s u i (head_before start (length ws) b len) → IsStore u
    → 28 ≤ start → start + length ws ≤ 128 → len ≡ length (string (chain_of (pool_of s) b)) → Blank s u i b start ws
blank s u i b start len ws back bare_b got store low high is_len =
    let h : Head = head_before start (length ws) b len in
    let n = new_plain s u i h got refl store in
    let old : Entry =
    record { bytes = take (length ws) (drop start (mbuf_of u i).bytes); start = start; cluster = None } in
    let new : Entry = record { bytes = ws; start = start; cluster = None } in
    let m = before s u i b h back bare_b n refl (record { low = low; high = high; kind = refl })
    (λ packet is. omega (arith, ap (λ (p : PacketHeader). p.len) (same_Some _ _ is), is_len)) in
    let a : IsPut (pool_of s) b (pool_of u) i (one_mbuf true old i) =
    subst (λ (e : Entry). IsPut (pool_of s) b (pool_of u) i
    (record { front = alone true; entries = e ∷ []; cells = i ∷ [] })) (ap (entry_from u i) n.head) m.adds in
    let base : PoolView = without (pool_of s) b in
    let back_is : ChainView = chain_of (pool_of s) b in
    let shown : chain_of (pool_of u) i ≡ joined (one_mbuf true old i) back_is =
    shown_with base (pool_of u) i (joined (one_mbuf true old i) back_is) a.pool in
    let long : length (mbuf_of u i).bytes ≡ 128 = store.mbuf_bytes i n.out in
    record {
      can = record {
        place = record {
          pool = m.pool;
          live = live_shown base (pool_of u) i (joined (one_mbuf true old i) back_is) a.pool;
          place =
              subst (λ (v : ChainView). IsPlace v (only i)) (sym shown)
              (record { within = omega arith; cell = refl });
        };
        unshared = λ c is. absurd (none-some c
            (ap (λ (v : ChainView). (entry_of v 0).cluster) (sym shown) ∙ is));
      };
      cluster = ap (λ (y : Head). y.cluster) (sym n.head);
      low = omega (arith, low, ap head_room_low n.head);
      high = omega (arith, high, ap room_high n.head);
      done = λ w x. record {
        fresh = a.fresh;
        pool =
            x.map_is
            ∙ ap (λ (e : Entry). with_chain (pool_of u) i (with_entry (chain_of (pool_of u) i) 0 e))
            (written n.head long)
            ∙ ap (λ (v : ChainView). with_chain (pool_of u) i (with_entry v 0 new)) shown
            ∙ ap (λ (p : PoolView). with_chain p i (joined (one_mbuf true new i) back_is)) a.pool
            ∙ (λ j. record {
              mbufs = base.mbufs;
              clusters = base.clusters;
              chains = insert-insert base.chains i (joined (one_mbuf true old i) back_is)
                  (joined (one_mbuf true new i) back_is) j;
            });
      };
    }
  where
    written : mbuf_head u i ≡ head_before start (length ws) b len → length (mbuf_of u i).bytes ≡ 128
        → entry_over u i start ws ≡ record { bytes = ws; start = start; cluster = None }
    written e long =
        ap (λ (h : Head). record {
          bytes = take h.len (drop h.start (over (place_bytes u i h.cluster) start ws));
          start = h.start;
          cluster = h.cluster;
        }) e
        ∙ (λ j. record {
          bytes = run_written (mbuf_of u i).bytes start ws (omega (arith, long, high)) j;
          start = start;
          cluster = None;
        })

-- ---- what its caller knows
pub has_back : {s : StoreView} {p : PoolView} {n b : ℕ} → IsPool s → pool_of s ≡ p → n ≡ b → IsLive p b → HasChain s n
has_back {s} {p} {n} {b} pool is e live = record {
  pool = pool;
  live = subst (λ (q : PoolView). IsLive q n) (sym is) (subst (IsLive p) (sym e) live);
}

pub back_out : {s : StoreView} {b : ℕ} → HasChain s b → is_out s b ≡ true
back_out {s} {b} has = first_out s b (open_on s b has.pool has.live).at

pub back_below : {s : StoreView} {b : ℕ} → HasChain s b → b < 0xffffffff
back_below {s} {b} has =
    omega (arith, out_below s b (back_out has), (open_on s b has.pool has.live).at.sound.store.mbufs)

pub back_short : {s : StoreView} {b : ℕ} → HasChain s b → length (string (chain_of (pool_of s) b)) ≤ 134215680
back_short {s} {b} has =
    let o = open_on s b has.pool has.live in
    omega (arith, sum_is s b has.pool has.live, all_bytes s b (whole_of s b o.at) o.at.sound.store)
