-- Freeing the first mbuf of a chain.
use Rattle.std.proofs.Common.{◌≡◌, ℕ, ◌+◌, ◌<◌, true, List, [], ◌∷◌, length, Option, Some, refl, sym, ap, ◌∙◌, subst, arith}
use Rattle.std.specs.FinMap as finmap
use Rattle.std.specs.FinMap.{FinMap}
use Rattle.std.specs.Ordering.{nat_cmp}
use Rattle.std.specs.Option.{IsSome}
use Rattle.std.proofs.lemmas.Option.{none-some, same_Some}
use Rattle.mbuf_pool.specs.Cells.{Head}
use Rattle.mbuf_pool.specs.Store.{StoreView, is_out, mbuf_head, IsStore}
use Rattle.mbuf_chain.specs.Chain.{ChainView, chain_of, IsLive, without, Adds}
use Rattle.mbuf_chain.specs.Steps.{second_part}
use Rattle.mbuf_chain.specs.Inside.Cells.{weigh, weigh_all, is_at, one, front_of, refers_at, first_of, read_chain, cells_from, view_of, IsLinked, IsFollower, AllFollow, IsChain, pool_of, IsPool, Freed}
use Rattle.mbuf_chain.proofs.Maps.{remove-insert}
use Rattle.mbuf_chain.proofs.Lists.{bit, is_at_same, chains_of, get-chains_of, heads_at, heads-tails, not_first, walk_on}
use Rattle.mbuf_chain.proofs.Changes.{SameCell, same_cell, list_kept, chain_kept, step, view_is}
use Rattle.mbuf_chain.proofs.Focused.{open_on, freeable, whole_of, once_in, count_cells, weigh_all_has}
use Rattle.mbuf_chain.proofs.Stores.{Ready, ready, refers_to}
use Rattle.mbuf_chain.proofs.Cuts.{bare_front}

nothing_freed : (s : StoreView) (l : List ℕ) → Freed s s l l
nothing_freed s l =
    record {
      mbufs = refl;
      clusters = refl;
      kept = λ k out. refl;
      bytes = λ c some. refl;
      once = λ k. refl;
      total = refl;
      counted = λ c. refl;
    }

-- the first mbuf of a live chain can be freed
pub first_ready : (s : StoreView) (a : ℕ) → IsPool s → IsLive (pool_of s) a → Ready s s (Some a) (Some a) a
first_ready s a pool live =
    let o = open_on s a pool live in
    ready s s (Some a) (Some a) a refl (freeable s a o.at) (whole_of s a o.at) (nothing_freed s (cells_from s (Some a)))

-- in a chain of more than one mbuf, the first has a next one
pub next_some : (s : StoreView) (a : ℕ) → IsPool s → IsLive (pool_of s) a → 1 < length (chain_of (pool_of s) a).entries
    → IsSome (mbuf_head s a).next
next_some s a pool live several =
    let o = open_on s a pool live in
    go o.at.cells o.at.linked (omega (arith, count_cells s a o.at, several))
  where
    go : (l : List ℕ) → IsLinked s (Some a) l → 1 < weigh one l → IsSome (mbuf_head s a).next
    go [] h lt = absurd (omega arith)
    go (x ∷ []) h lt = absurd (omega arith)
    go (x ∷ y ∷ ys) h lt =
        subst (λ (j : ℕ). IsSome (mbuf_head s j).next) (sym (same_Some a x h.0))
        (subst (λ (n : Option ℕ). IsSome n) (sym h.3.0) refl)

-- the mbufs after the first are a chain, whose first mbuf has no packet header
record Later (s : StoreView) (b : ℕ) (m : List ℕ) : Type 0 where
  pub chain : IsChain s m
  pub first : first_of m ≡ b
  pub inside : 0 < weigh (is_at b) m
  pub bare : IsFollower (mbuf_head s b)

later : (s : StoreView) (n : Option ℕ) (b : ℕ) (m : List ℕ) → n ≡ Some b → IsLinked s n m → AllFollow s m → Later s b m
later s n b [] is h follow = absurd (none-some b (sym h ∙ is))
later s n b (y ∷ ys) is h follow =
    let first : y ≡ b = same_Some y b (sym h.0 ∙ is) in
    record {
      chain = ((refl, h.1, h.2, h.3), follow.1);
      first = first;
      inside = subst (λ (j : ℕ). 0 < weigh (is_at j) (y ∷ ys)) first (omega (arith, is_at_same y));
      bare = subst (λ (j : ℕ). IsFollower (mbuf_head s j)) first follow.0;
    }

-- From s to t the first mbuf of chain a was freed; the others are chain b.
pub record Dropped (s t : StoreView) (a b : ℕ) : Type 0 where
  pub pool : IsPool t
  pub adds : Adds (without (pool_of s) a) (pool_of t) b (second_part 1 (chain_of (pool_of s) a))

pub dropped : (s t : StoreView) (a b : ℕ) → IsPool s → IsLive (pool_of s) a → (mbuf_head s a).next ≡ Some b
    → Freed s t (cells_from s (Some a)) (cells_from s (mbuf_head s a).next) → IsStore t → Dropped s t a b
dropped s t a b pool live next freed store =
    let o = open_on s a pool live in
    let f = o.at in
    let w = walk_on s (Some a) a refl (whole_of s a o.at) in
    let m : List ℕ = cells_from s (mbuf_head s a).next in
    let all : a ∷ cells_from s (mbuf_head s a).next ≡ o.at.cells = sym w.cells ∙ o.at.walks in
    let l =
    later s (mbuf_head s a).next b (cells_from s (mbuf_head s a).next) next w.whole
    (subst (IsChain s) (sym all) o.at.chain).1 in
    let sum : (g : ℕ → ℕ) → weigh g o.at.cells ≡ g a + weigh g (cells_from s (mbuf_head s a).next) =
    λ g. ap (weigh g) (sym all) in
    let went_on : (k : ℕ) → 0 < weigh_all (is_at k) (cells_from s (mbuf_head s a).next ∷ o.at.rest)
    → is_out t k ≡ true =
    λ k p. bit (is_out t k) (omega
    (arith, p, freed.once k, ap (weigh (is_at k)) o.at.walks, o.at.sound.once k, sum (is_at k))) in
    let kept : (k : ℕ) → 0 < weigh_all (is_at k) (cells_from s (mbuf_head s a).next ∷ o.at.rest) → SameCell s t k =
    λ k p. same_cell s t k (freed.kept k (went_on k p))
    (went_on k p ∙ sym (bit (is_out s k) (omega (arith, p, o.at.sound.once k, sum (is_at k)))))
    (λ d is. freed.bytes d (omega (
      arith,
      freed.counted d,
      ap (weigh (refers_at s d)) o.at.walks,
      o.at.sound.counted d,
      refers_to s k d is,
      weigh_all_has (refers_at s d) k (cells_from s (mbuf_head s a).next ∷ o.at.rest) p,
    ))) in
    let kept_m : (k : ℕ) → 0 < weigh (is_at k) (cells_from s (mbuf_head s a).next) → SameCell s t k =
    λ k p. kept k (omega (arith, p)) in
    let same = list_kept s t m kept_m in
    let went = step s t (o.at.cells ∷ []) (cells_from s (mbuf_head s a).next ∷ []) o.at.rest o.at.sound (record {
      kept = λ k p. kept k (omega (arith, p));
      linked = (chain_kept s t m kept_m l.chain, tt);
      once = λ k. omega (arith, freed.once k, ap (weigh (is_at k)) o.at.walks);
      total = omega (arith, freed.total, ap (weigh one) o.at.walks);
      counted = λ c. omega (arith, freed.counted c, ap (weigh (refers_at s c)) o.at.walks, same.counted c);
      store = store;
    }) in
    let head : mbuf_head t b ≡ mbuf_head s b = (kept_m b l.inside).head in
    let shown : read_chain t (cells_from s (mbuf_head s a).next) ≡ second_part 1 (chain_of (pool_of s) a) =
    (λ i. record {
      front =
          (ap (λ (j : ℕ). front_of (mbuf_head t j)) l.first ∙ ap front_of head ∙ bare_front (mbuf_head s b) l.bare) i;
      entries = same.entries i;
      cells = cells_from s (mbuf_head s a).next;
    }) ∙ ap (λ (cs : List ℕ). second_part 1 (read_chain s cs)) all ∙ ap (second_part 1) o.at.shows in
    let alone_b : heads_at b o.at.rest ≡ 0 =
    omega (arith, once_in s a o.at b, sum (is_at b), l.inside, heads-tails s b o.at.rest o.at.sound.linked.1) in
    let left : finmap.remove (view_of s) a ≡ chains_of s o.at.rest =
    ap (λ (q : FinMap nat_cmp ChainView). finmap.remove q a) o.at.map_is
    ∙ remove-insert (chains_of s o.at.rest) a (chain_of (pool_of s) a) o.at.fresh in
    record {
      pool = (
        cells_from s (mbuf_head s a).next ∷ o.at.rest,
        went.sound,
        (
          (λ packet is. absurd (none-some packet
              (sym l.bare.packet ∙ ap (λ (h : Head). h.packet) (sym head)
              ∙ sym (ap (λ (j : ℕ). (mbuf_head t j).packet) l.first) ∙ is))),
          went.totals o.totals.1,
        ),
      );
      adds = record {
        fresh =
            ap (λ (q : FinMap nat_cmp ChainView). finmap.get q b) left ∙ get-chains_of s o.at.rest b
            ∙ not_first s b o.at.rest alone_b;
        pool = λ i. record {
          mbufs = freed.mbufs i;
          clusters = freed.clusters i;
          chains = (view_is t _ went.sound
              ∙ (λ j. finmap.insert (went.map_is j) (l.first j) (shown j))
              ∙ ap (λ (q : FinMap nat_cmp ChainView). finmap.insert q b (second_part 1 (chain_of (pool_of s) a)))
              (sym left)) i;
        };
      };
    }
