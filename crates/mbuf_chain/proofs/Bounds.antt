-- How large the pool over a store is, and that its entries fit into their mbufs and clusters.
use Rattle.std.proofs.Common.{◌≡◌, ◌≢◌, ℕ, zero, suc, ◌+◌, ◌<◌, ◌≤◌, List, [], ◌∷◌, length, Option, Some, None, refl, sym, ap, ◌∙◌, arith, slice_get, slice_index}
use Rattle.std.specs.Option.{IfSome}
use Rattle.mbuf_pool.specs.Cells.{IsLink}
use Rattle.mbuf_pool.specs.Store.{StoreView, mbuf_head, is_out}
use Rattle.mbuf_chain.specs.declared.place.Place.{Place}
use Rattle.mbuf_chain.specs.Chain.{ChainView, chain_of, IsLive}
use Rattle.mbuf_chain.specs.Inside.Access.{HasMbuf}
use Rattle.mbuf_chain.specs.Inside.Cells.{pool_of, IsPool, weigh, is_at, read_chain}
use Rattle.mbuf_chain.specs.Owners.{times_among}
use Rattle.mbuf_chain.specs.Frames.{Fits, IsBounded}
use Rattle.mbuf_chain.proofs.Lists.{few_out, out_below, small}
use Rattle.mbuf_chain.proofs.Changes.{held_is}
use Rattle.mbuf_chain.proofs.Focused.{open_on, count_cells, first_out, once_in}
use Rattle.mbuf_chain.proofs.Joins.{open_two}
use Rattle.mbuf_chain.proofs.Rewrites.{some_cell}
use Rattle.mbuf_chain.proofs.Places.{live_cells}
use Rattle.mbuf_chain.proofs.Grows.{rooms_at}
use Rattle.mbuf_chain.proofs.Reading.{cluster_known}

get_index : (l : List ℕ) (i : ℕ) → i < length l → slice_get l i ≡ Some (slice_index l i)
get_index [] i h = absurd (omega arith)
get_index (x ∷ xs) zero h = refl
get_index (x ∷ xs) (suc i) h = get_index xs i (omega arith)

fits : (s : StoreView) (c : ℕ) (at : Place) → HasMbuf s c at
    → Fits (pool_of s) (chain_of (pool_of s) c) at.index
fits s c at has =
    let r = rooms_at {h = mbuf_head s at.cell} has refl in
    record {
      low = omega (arith, r.low, r.low_is, r.start);
      high = omega (arith, r.high, r.high_is, r.start, r.len);
      known = cluster_known has;
    }

-- how often a number is in a list of mbufs
times_weigh : (k : ℕ) (l : List ℕ) → times_among k l ≡ weigh (is_at k) l
times_weigh k [] = refl
times_weigh k (x ∷ xs) = ap (λ (n : ℕ). is_at k x + n) (times_weigh k xs)

times_cells : (s : StoreView) (k : ℕ) (l : List ℕ) (v : ChainView) → read_chain s l ≡ v
    → times_among k v.cells ≡ weigh (is_at k) l
times_cells s k l v shows = ap (λ (w : ChainView). times_among k w.cells) (sym shows) ∙ times_weigh k l

once : (s : StoreView) (c k : ℕ) → IsPool s → IsLive (pool_of s) c → times_among k (chain_of (pool_of s) c).cells ≤ 1
once s c k ok live =
    let o = open_on s c ok live in
    omega (arith, once_in s c o.at k, times_cells s k o.at.cells (chain_of (pool_of s) c) o.at.shows)

apart : (s : StoreView) (c d k : ℕ) → IsPool s → IsLive (pool_of s) c → IsLive (pool_of s) d → c ≢ d
    → times_among k (chain_of (pool_of s) c).cells + times_among k (chain_of (pool_of s) d).cells ≤ 1
apart s c d k ok live_c live_d ne =
    let two = open_two s c d ok live_c live_d ne in
    omega (
      arith,
      two.sound.once k,
      small (is_out s k),
      times_cells s k two.front (chain_of (pool_of s) c) two.shows_front,
      times_cells s k two.back (chain_of (pool_of s) d) two.shows_back,
    )

pub bounded : (s : StoreView) → IsPool s → IsBounded (pool_of s)
bounded s ok = record {
  some = λ c live. let o = open_on s c ok live in
      omega (arith, count_cells s c o.at, some_cell s o.at.cells o.at.chain);
  numbers = λ c live. let o = open_on s c ok live in out_below s c (first_out s c o.at);
  cells = λ c live. (live_cells s c ok live).same;
  once = λ c k live. once s c k ok live;
  apart = λ c d k live_c live_d ne. apart s c d k ok live_c live_d ne;
  fits = λ c i live lt.
      fits s c (record { index = i; cell = slice_index (chain_of (pool_of s) c).cells i }) (record {
        pool = ok;
        live = live;
        place = record {
          within = lt;
          cell = get_index (chain_of (pool_of s) c).cells i
              (omega (arith, lt, (live_cells s c ok live).same));
        };
      });
  few = omega (arith, held_is s ok.0 ok.1, few_out s);
  small = ok.1.store.mbufs.1;
}

-- a live chain's number differs from the encoding of "none"
pub reported : (s : StoreView) (at : Option ℕ) → IsPool s → IfSome at (IsLive (pool_of s)) → IsLink at
reported s None ok live = tt
reported s (Some k) ok live = omega (arith, (bounded s ok).numbers k live, (bounded s ok).small)
