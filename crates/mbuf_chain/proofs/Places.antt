-- Places of a live chain.
use Rattle.std.proofs.Common.{◌≡◌, ◌≢◌, ℕ, zero, suc, ◌+◌, ◌<◌, ◌≤◌, false, List, [], ◌∷◌, ◌++◌, length, Option, None, Some, is_some, refl, sym, ap, ◌∙◌, subst, arith, slice_get, slice_index}
use Rattle.std.specs.FinMap as finmap
use Rattle.std.proofs.lemmas.Option.{none-some, slice_get_within}
use Rattle.std.proofs.lemmas.List.{length-append}
use Rattle.mbuf_pool.specs.Cells.{Head}
use Rattle.mbuf_pool.specs.Store.{StoreView, mbuf_head}
use Rattle.mbuf_chain.specs.declared.place.Place.{Place}
use Rattle.mbuf_chain.specs.declared.place.Segment.{Segment}
use Rattle.mbuf_chain.specs.Chain.{Entry, ChainView, PoolView, chain_of, IsLive, IsPlace, with_chain, without, entry_of, alone}
use Rattle.mbuf_chain.specs.Steps.{headless, joined, linked}
use Rattle.mbuf_chain.specs.Inside.Access.{HasMbuf}
use Rattle.mbuf_chain.specs.Inside.Cells.{weigh, one, front_of, first_of, IsLinked, IsChain, pool_of, IsPool}
use Rattle.mbuf_chain.proofs.Maps.{remove-insert_any}
use Rattle.mbuf_chain.proofs.Laws.Owners.{chain_here, chain_there, live_here, live_with}
use Rattle.mbuf_chain.proofs.Focused.{open_on, enter, count_cells}
use Rattle.mbuf_chain.proofs.Heads.{Shown}

cells_count : (l : List ℕ) → length l ≡ weigh one l
cells_count [] = refl
cells_count (x ∷ xs) = omega (arith, cells_count xs)

-- what holds for the mbufs of every live chain
pub record LiveCells (c : ℕ) (v : ChainView) : Type 0 where
  pub same : length v.cells ≡ length v.entries
  pub some : 0 < length v.entries
  pub few : length v.entries ≤ 65535
  pub first : slice_get v.cells 0 ≡ Some c

pub live_cells : (s : StoreView) (c : ℕ) → IsPool s → IsLive (pool_of s) c → LiveCells c (chain_of (pool_of s) c)
live_cells s c pool live =
    let o = open_on s c pool live in
    let f = o.at in
    let cells : f.cells ≡ (chain_of (pool_of s) c).cells = ap (λ (v : ChainView). v.cells) f.shows in
    record {
      same = ap length (sym cells) ∙ cells_count f.cells ∙ sym (count_cells s c f);
      some = omega (arith, count_cells s c f, some f.cells f.chain);
      few =
          omega (
            arith,
            count_cells s c f,
            f.sound.total,
            Rattle.mbuf_chain.proofs.Lists.few_out s,
            f.sound.store.mbufs,
          );
      first = ap (λ (l : List ℕ). slice_get l 0) (sym cells) ∙ first f.cells f.chain f.first;
    }
  where
    some : (l : List ℕ) → IsChain s l → 0 < weigh one l
    some [] h = absurd h
    some (y ∷ ys) h = omega arith

    first : (l : List ℕ) → IsChain s l → first_of l ≡ c → slice_get l 0 ≡ Some c
    first [] h e = absurd h
    first (y ∷ ys) h e = ap {B = Option ℕ} Some e

pub first_place : (s : StoreView) (c : ℕ) → IsPool s → IsLive (pool_of s) c
    → IsPlace (chain_of (pool_of s) c) (record { index = 0; cell = c })
first_place s c pool live = let l = live_cells s c pool live in record { within = l.some; cell = l.first }

-- a place of a pool, in its store
pub has_place : {s : StoreView} {p : PoolView} {c : ℕ} {at : Place} → IsPool s → pool_of s ≡ p → IsLive p c
    → IsPlace (chain_of p c) at → HasMbuf s c at
has_place {s} {p} {c} {at} pool is live place = record {
  pool = pool;
  live = subst (λ (q : PoolView). IsLive q c) (sym is) live;
  place = subst (λ (q : PoolView). IsPlace (chain_of q c) at) (sym is) place;
}

-- ---- the place after another
next_in : (s : StoreView) (at : Option ℕ) (l : List ℕ) (i : ℕ) → IsLinked s at l → i < weigh one l
    → (mbuf_head s (slice_index l i)).next ≡ slice_get l (suc i)
next_in s at [] i h lt = absurd (omega arith)
next_in s at (x ∷ []) zero h lt = h.3
next_in s at (x ∷ y ∷ ys) zero h lt = h.3.0
next_in s at (x ∷ xs) (suc i) h lt = next_in s (mbuf_head s x).next xs i h.3 (omega arith)

past : (l : List ℕ) (i : ℕ) → slice_get l i ≡ None → length l ≤ i
past [] i e = omega arith
past (x ∷ xs) zero e = absurd (none-some x (sym e))
past (x ∷ xs) (suc i) e = omega (arith, past xs i e)

next_is : {s : StoreView} {c : ℕ} {at : Place} → HasMbuf s c at
    → (mbuf_head s at.cell).next ≡ slice_get (chain_of (pool_of s) c).cells (at.index + 1)
next_is {s} {c} {at} has =
    let o = open_on s c has.pool has.live in
    let e = enter s c at o.at has.place in
    ap (λ (j : ℕ). (mbuf_head s j).next) (sym e.cell) ∙ next_in s (Some c) o.at.cells at.index o.at.linked e.below
    ∙ ap (λ (v : ChainView). slice_get v.cells (suc at.index)) o.at.shows
    ∙ (let same : suc at.index ≡ at.index + 1 = omega arith in ap (slice_get (chain_of (pool_of s) c).cells) same)

pub next_place : {s : StoreView} {c : ℕ} {at : Place} {next : ℕ} {h : Head} → HasMbuf s c at → h ≡ mbuf_head s at.cell
    → h.next ≡ Some next
    → IsPlace (chain_of (pool_of s) c) (record { index = at.index + 1; cell = next })
next_place {s} {c} {at} {next} {h} has head is =
    let l = live_cells s c has.pool has.live in
    let there : slice_get (chain_of (pool_of s) c).cells (at.index + 1) ≡ Some next =
    sym (next_is has) ∙ ap (λ (y : Head). y.next) (sym head) ∙ is in
    record {
      within = omega (arith, l.same, slice_get_within (chain_of (pool_of s) c).cells (at.index + 1) next there);
      cell = there;
    }

pub next_none : {s : StoreView} {c : ℕ} {at : Place} {h : Head} → HasMbuf s c at → h ≡ mbuf_head s at.cell
    → h.next ≡ None
    → at.index + 1 ≡ length (chain_of (pool_of s) c).entries
next_none {s} {c} {at} {h} has head is =
    let l = live_cells s c has.pool has.live in
    omega (
      arith,
      l.same,
      has.place.within,
      past (chain_of (pool_of s) c).cells (at.index + 1)
          (sym (next_is has) ∙ ap (λ (y : Head). y.next) (sym head) ∙ is),
    )

-- ---- the part of a buffer that contains the bytes
pub segment_is : (s : StoreView) (c : ℕ) (at : Place) (h : Head) → Shown s c at → h ≡ mbuf_head s at.cell
    → ◌≡◌ {A = Segment} (record { start = h.start; len = h.len; cluster = h.cluster })
    (record {
      start = (entry_of (chain_of (pool_of s) c) at.index).start;
      len =
          length (entry_of (chain_of (pool_of s) c) at.index).bytes;
      cluster =
          (entry_of (chain_of (pool_of s) c) at.index).cluster;
    })
segment_is s c at h k head = λ i. record {
  start = (ap (λ (y : Head). y.start) head ∙ ap (λ (e : Entry). e.start) (sym k.entry)) i;
  len = (ap (λ (y : Head). y.len) head ∙ k.long) i;
  cluster = (ap (λ (y : Head). y.cluster) head ∙ ap (λ (e : Entry). e.cluster) (sym k.entry)) i;
}

-- ---- a chain linked after another, after its header is removed
-- what the second step of a link needs from the first
pub record Bared (p q : PoolView) (a b : ℕ) : Type 0 where
  pub front_live : IsLive q a
  pub back_live : IsLive q b
  pub front_same : chain_of q a ≡ chain_of p a
  pub bare : (chain_of q b).front ≡ alone false
  pub whole : linked q a b ≡ linked p a b

pub bared : (p q : PoolView) (a b : ℕ) → a ≢ b → IsLive p a → IsLive p b → q ≡ with_chain p b (headless (chain_of p b))
    → Bared p q a b
bared p q a b ne live_a live_b is =
    subst (λ (r : PoolView). Bared p r a b) (sym is) (record {
      front_live = live_with p (with_chain p b (headless (chain_of p b))) b (headless (chain_of p b)) a refl live_a;
      back_live = live_here p b (headless (chain_of p b));
      front_same = chain_there p b a (headless (chain_of p b)) ne;
      bare = ap (λ (v : ChainView). v.front) (chain_here p b (headless (chain_of p b)));
      whole = λ i. record {
        mbufs = p.mbufs;
        clusters = p.clusters;
        chains =
            finmap.insert (remove-insert_any p.chains b (headless (chain_of p b)) i) a
            (joined (chain_there p b a (headless (chain_of p b)) ne i) (chain_here p b (headless (chain_of p b)) i));
      };
    })

-- the first mbuf of the second chain comes right after the mbufs of the first
get_after : (l m : List ℕ) (n : ℕ) → length l ≡ n → slice_get (l ++ m) n ≡ slice_get m 0
get_after [] m zero e = refl
get_after [] m (suc n) e = absurd (omega arith)
get_after (x ∷ l) m zero e = absurd (omega arith)
get_after (x ∷ l) m (suc n) e = get_after l m n (omega arith)

pub linked_place : (s : StoreView) (q : PoolView) (a b : ℕ) (last : Place) → IsPool s → IsLive (pool_of s) a
    → IsLive (pool_of s) b → last.index + 1 ≡ length (chain_of (pool_of s) a).entries
    → q ≡ linked (pool_of s) a b → IsPlace (chain_of q a) (record { index = last.index + 1; cell = b })
linked_place s q a b last pool live_a live_b is_last is =
    let l = live_cells s a pool live_a in
    let m = live_cells s b pool live_b in
    let v = chain_of (pool_of s) a in
    let w = chain_of (pool_of s) b in
    subst (λ (u : ChainView). IsPlace u (record { index = last.index + 1; cell = b }))
    (sym (ap (λ (r : PoolView). chain_of r a) is ∙ chain_here (without (pool_of s) b) a (joined v w)))
    (record {
      within =
          omega (
            arith,
            length-append (chain_of (pool_of s) a).entries (chain_of (pool_of s) b).entries,
            m.some,
            is_last,
          );
      cell =
          get_after (chain_of (pool_of s) a).cells (chain_of (pool_of s) b).cells (last.index + 1)
          (l.same ∙ sym is_last)
          ∙ m.first;
    })

-- the fields of a live chain's front, from its first mbuf
pub header_is : (s : StoreView) (c : ℕ) → IsPool s → IsLive (pool_of s) c
    → is_some (mbuf_head s c).packet ≡ (chain_of (pool_of s) c).front.header
header_is s c pool live =
    let o = open_on s c pool live in
    ap (λ (j : ℕ). is_some (mbuf_head s j).packet) (sym o.at.first) ∙ ap (λ (v : ChainView). v.front.header) o.at.shows

pub front_is : (s : StoreView) (c : ℕ) → IsPool s → IsLive (pool_of s) c
    → front_of (mbuf_head s c) ≡ (chain_of (pool_of s) c).front
front_is s c pool live =
    let o = open_on s c pool live in
    ap (λ (j : ℕ). front_of (mbuf_head s j)) (sym o.at.first) ∙ ap (λ (v : ChainView). v.front) o.at.shows
