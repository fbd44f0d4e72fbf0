-- A chain before it is linked after another: its packet header and its place in a train are removed.
use Rattle.std.proofs.Common.{◌≡◌, ◌≢◌, ℕ, ◌+◌, true, false, None, length, sym, ap, subst, ◌∙◌}
use Rattle.mbuf_pool.specs.Store.{StoreView, mbuf_head, SetsHead, IsStore}
use Rattle.mbuf_chain.specs.declared.place.Place.{Place}
use Rattle.mbuf_chain.specs.Chain.{ChainView, PoolView, chain_of, IsLive, IsPlace, string, alone}
use Rattle.mbuf_chain.specs.Steps.{headless, linked}
use Rattle.mbuf_chain.specs.Inside.Access.{HasChain, HasMbuf}
use Rattle.mbuf_chain.specs.Inside.Cells.{pool_of}
use Rattle.mbuf_chain.proofs.Laws.Owners.{chain_here}
use Rattle.mbuf_chain.proofs.Joins.{bared_twice, stripped}
use Rattle.mbuf_chain.proofs.Places.{bared}

pub record Linkable (s t : StoreView) (a b added : ℕ) (last : Place) : Type 0 where
  pub place : HasMbuf t a last
  pub back : IsLive (pool_of t) b
  pub ends : last.index + 1 ≡ length (chain_of (pool_of t) a).entries
  pub bare : (chain_of (pool_of t) b).front ≡ alone false
  pub bytes : (chain_of (pool_of t) a).front.header ≡ true → added ≡ length (string (chain_of (pool_of t) b))
  pub whole : linked (pool_of t) a b ≡ linked (pool_of s) a b

pub linkable : (s t u : StoreView) (a b added : ℕ) (last : Place) → HasMbuf s a last → HasChain s b → a ≢ b
    → last.index + 1 ≡ length (chain_of (pool_of s) a).entries
    → ((chain_of (pool_of s) a).front.header ≡ true → added ≡ length (string (chain_of (pool_of s) b)))
    → SetsHead s t b (record (mbuf_head s b) { packet = None })
    → SetsHead t u b (record (mbuf_head t b) { next_packet = None }) → IsStore u → Linkable s u a b added last
linkable s t u a b added last has back apart is_last bytes first later store =
    let done = stripped s u b back.pool back.live (bared_twice s t u b back.pool back.live first later) store in
    let e = bared (pool_of s) (pool_of u) a b apart has.live back.live done.map_is in
    record {
      place = record {
        pool = done.pool;
        live = e.front_live;
        place = subst (λ (v : ChainView). IsPlace v last) (sym e.front_same) has.place;
      };
      back = e.back_live;
      ends = is_last ∙ ap (λ (v : ChainView). length v.entries) (sym e.front_same);
      bare = e.bare;
      bytes =
          λ headed.
          bytes (sym (ap (λ (v : ChainView). v.front.header) e.front_same) ∙ headed)
          ∙ sym (ap (λ (q : PoolView). length (string (chain_of q b))) done.map_is
          ∙ ap (λ (v : ChainView). length (string v))
          (chain_here (pool_of s) b (headless (chain_of (pool_of s) b))));
      whole = e.whole;
    }
