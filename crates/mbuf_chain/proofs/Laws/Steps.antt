-- What a caller knows of a pool after one step.
use Rattle.std.proofs.Common.{◌≡◌, ◌≢◌, ℕ, length, Bool, Result, Ok, Option, Some, unwrap_or, sym, ap, ◌∙◌, arith, subst, inl, inr, None}
use Rattle.std.specs.FinMap as finmap
use Rattle.std.specs.FinMap.{FinMap}
use Rattle.std.specs.Ordering.{nat_cmp}
use Rattle.std.proofs.lemmas.Bool.{cases_eq}
use Rattle.std.proofs.lemmas.Option.{none-some}
use Rattle.std.proofs.lemmas.List.{length-set}
use Rattle.mbuf_chain.specs.declared.place.Place.{Place}
use Rattle.mbuf_chain.specs.Chain.{Entry, ChainView, PoolView, chain_of, no_chain, entry_of, IsLive, IsPlace, with_chain, without, Adds}
use Rattle.mbuf_chain.specs.Steps.{one_mbuf, joined, linked, with_entry}
use Rattle.mbuf_chain.proofs.Maps.{same, get_here, get_there, get_gone, get_left, insert-insert, remove-insert, remove-insert_any}
use Rattle.std.specs.Result.{IfOk}
use Rattle.mbuf_chain.proofs.Laws.Owners.{live_here, live_with, shown_with, shown_adds, kept_with}

-- the chain that was written is live
pub live_shown : (p q : PoolView) (c : ℕ) (v : ChainView) → q ≡ with_chain p c v → IsLive q c
live_shown p q c v is = subst (λ (r : PoolView). IsLive r c) (sym is) (live_here p c v)

-- a live chain is live after a new chain is added
pub live_beside : (p q : PoolView) (c : ℕ) (v : ChainView) → Adds p q c v → (k : ℕ) → IsLive p k → IsLive q k
live_beside p q c v a k live = live_with p q c v k a.pool live

-- no live chain has a new chain's number
pub apart : (p q : PoolView) (c : ℕ) (v : ChainView) → Adds p q c v → (k : ℕ) → IsLive p k → k ≢ c
apart p q c v a k live e = none-some (chain_of p k) (sym a.fresh ∙ ap (finmap.get p.chains) (sym e) ∙ live)

live_is : (p : PoolView) (k : ℕ) (v : ChainView) → finmap.get p.chains k ≡ Some v → IsLive p k
live_is p k v is = is ∙ ap (λ (w : ChainView). Some w) (sym (ap (λ (o : Option ChainView). unwrap_or o no_chain) is))

pub live_without : (p q : PoolView) (c : ℕ) → q ≡ without p c → (k : ℕ) → k ≢ c → IsLive p k → IsLive q k
live_without p q c is k ne live =
    live_is q k (chain_of p k) (ap (λ (r : PoolView). finmap.get r.chains k) is ∙ get_left p.chains c k ne ∙ live)

-- a place stays valid if an entry is replaced
pub place_kept : (v : ChainView) (i : ℕ) (e : Entry) (at : Place) → IsPlace v at → IsPlace (with_entry v i e) at
place_kept v i e at is = record { within = omega (arith, is.within, length-set v.entries i e); cell = is.cell }

-- a place in a chain is one after its entry was replaced
pub place_after : (p q : PoolView) (c i : ℕ) (e : Entry) (at : Place)
    → q ≡ with_chain p c (with_entry (chain_of p c) i e) → IsPlace (chain_of p c) at → IsPlace (chain_of q c) at
place_after p q c i e at is place =
    subst (λ (v : ChainView). IsPlace v at) (sym (shown_with p q c (with_entry (chain_of p c) i e) is))
    (place_kept (chain_of p c) i e at place)

-- the chain that a call made, if the call succeeded
pub made : {E : Type 0} (p q : PoolView) (r : Result ℕ E) (d : ℕ) (w : ℕ → ChainView) → r ≡ Ok d
    → IfOk r (λ c. Adds p q c (w c)) → Adds p q d (w d)
made p q r d w is a = subst (λ x. IfOk x (λ c. Adds p q c (w c))) is a

pub place_beside : (p q : PoolView) (c k : ℕ) (v : ChainView) (at : Place) → Adds p q c v → IsLive p k
    → IsPlace (chain_of p k) at → IsPlace (chain_of q k) at
place_beside p q c k v at a live place =
    subst (λ (w : ChainView). IsPlace w at) (sym (kept_with p q c v k a.pool (apart p q c v a k live))) place

-- ---- the chains that a step doesn't change
pub kept_adds : {p q : PoolView} {d : ℕ} {w : ChainView} (k : ℕ) → Adds p q d w → IsLive p k
    → finmap.get q.chains k ≡ finmap.get p.chains k
kept_adds {p} {q} {d} {w} k a live =
    ap (λ (s : PoolView). finmap.get s.chains k) a.pool ∙ get_there p.chains d w k (apart p q d w a k live)

-- two pools with the same map entry at a number have the same chain there
pub kept_chain : (p r : PoolView) (k : ℕ) → finmap.get r.chains k ≡ finmap.get p.chains k → chain_of r k ≡ chain_of p k
kept_chain p r k is = ap (λ (o : Option ChainView). unwrap_or o no_chain) is

pub kept_place : (p r : PoolView) (k : ℕ) (at : Place) → finmap.get r.chains k ≡ finmap.get p.chains k
    → IsPlace (chain_of p k) at → IsPlace (chain_of r k) at
kept_place p r k at is place = subst (λ (v : ChainView). IsPlace v at) (sym (kept_chain p r k is)) place

-- ---- a new chain of one mbuf
pub count_new : (p q : PoolView) (c : ℕ) (header : Bool) (e : Entry) → Adds p q c (one_mbuf header e c)
    → length (chain_of q c).entries ≡ 1
count_new p q c header e a = ap (λ (v : ChainView). length v.entries) (shown_with p q c (one_mbuf header e c) a.pool)

pub new_entry : (p q : PoolView) (c i : ℕ) (header : Bool) (e : Entry) → Adds p q c (one_mbuf header e c) → i ≡ 0
    → entry_of (chain_of q c) i ≡ e
new_entry p q c i header e a zero =
    ap (λ (v : ChainView). entry_of v i) (shown_with p q c (one_mbuf header e c) a.pool)
    ∙ ap (entry_of (one_mbuf header e c)) zero

-- a new chain that is then changed is a new chain with its last value
pub adds_then : {p q : PoolView} {c : ℕ} {v : ChainView} (r : PoolView) (w : ChainView) → Adds p q c v
    → r ≡ with_chain q c w → Adds p r c w
adds_then {p} {q} {c} {v} r w a is = record {
  fresh = a.fresh;
  pool =
      is ∙ ap (λ (s : PoolView). with_chain s c w) a.pool
      ∙ (λ i. record { mbufs = p.mbufs; clusters = p.clusters; chains = insert-insert p.chains c v w i });
}

-- the same if its only entry was replaced
pub filled : (p q r : PoolView) (c i : ℕ) (header : Bool) (old new : Entry) → Adds p q c (one_mbuf header old c) → i ≡ 0
    → r ≡ with_chain q c (with_entry (chain_of q c) i new) → Adds p r c (one_mbuf header new c)
filled p q r c i header old new a zero is =
    adds_then r (one_mbuf header new c) a
    (is ∙ ap (with_chain q c) (ap (λ (v : ChainView). with_entry v i new)
    (shown_with p q c (one_mbuf header old c) a.pool)
    ∙ ap (λ (j : ℕ). with_entry (one_mbuf header old c) j new) zero))

-- a chain that was made and freed leaves the pool unchanged
pub adds_undone : {p q : PoolView} {c : ℕ} {v : ChainView} (r : PoolView) → Adds p q c v → r ≡ without q c → r ≡ p
adds_undone {p} {q} {c} {v} r a is =
    is ∙ ap (λ (s : PoolView). without s c) a.pool
    ∙ (λ i. record { mbufs = p.mbufs; clusters = p.clusters; chains = remove-insert p.chains c v a.fresh i })

-- ---- chain c is replaced: c is removed, and a chain with the same or a new number is added
removed-insert : {X : Type 0} (m : FinMap nat_cmp X) (c : ℕ) (v : X)
    → finmap.insert m c v ≡ finmap.insert (finmap.remove m c) c v
removed-insert m c v = same _ _ (λ q. elim (cases_eq q c) [
  | inl e ↦ subst (λ (j : ℕ). finmap.get (finmap.insert m c v) j ≡ finmap.get (finmap.insert (finmap.remove m c) c v) j)
      (sym e) (get_here m c v ∙ sym (get_here _ c v))
  | inr ne ↦ get_there m c v q ne ∙ sym (get_there _ c v q ne ∙ get_left m c q ne)
])

-- the chain was changed and kept its number
pub adds_in_place : (p q : PoolView) (c : ℕ) (w : ChainView) → q ≡ with_chain p c w → Adds (without p c) q c w
adds_in_place p q c w is = record {
  fresh = get_gone p.chains c;
  pool = is ∙ (λ i. record { mbufs = p.mbufs; clusters = p.clusters; chains = removed-insert p.chains c w i });
}

-- a new chain was linked after it
pub linked_new : (p q r : PoolView) (c d : ℕ) (w : ChainView) → IsLive p c → Adds p q d w
    → r ≡ linked q c d → r ≡ with_chain p c (joined (chain_of p c) w)
linked_new p q r c d w live a is =
    is ∙ (λ i. with_chain (adds_undone (without q d) a (λ _. without q d) i) c
    (joined (kept_with p q d w c a.pool (apart p q d w a c live) i) (shown_adds a i)))

-- the chain was linked after a new one
replaced : {X : Type 0} (m : FinMap nat_cmp X) (c d : ℕ) (w u : X)
    → finmap.insert (finmap.remove (finmap.insert m d w) c) d u ≡ finmap.insert (finmap.remove m c) d u
replaced m c d w u = same _ _ (λ q. elim (cases_eq q d) [
  | inl e ↦ subst (λ (j : ℕ). finmap.get (finmap.insert (finmap.remove (finmap.insert m d w) c) d u) j
      ≡ finmap.get (finmap.insert (finmap.remove m c) d u) j) (sym e) (get_here _ d u ∙ sym (get_here _ d u))
  | inr nd ↦ get_there _ d u q nd ∙ elim (cases_eq q c) [
    | inl e ↦ subst (λ (j : ℕ). finmap.get (finmap.remove (finmap.insert m d w) c) j ≡ finmap.get (finmap.remove m c) j)
        (sym e) (get_gone _ c ∙ sym (get_gone m c))
    | inr nc ↦ get_left _ c q nc ∙ get_there m d w q nd ∙ sym (get_left m c q nc)
  ] ∙ sym (get_there _ d u q nd)
])

pub linked_front : (p q r : PoolView) (c d : ℕ) (w : ChainView) → IsLive p c → Adds p q d w
    → r ≡ linked q d c → Adds (without p c) r d (joined w (chain_of p c))
linked_front p q r c d w live a is =
    let ne : c ≢ d = apart p q d w a c live in
    record {
      fresh = get_left p.chains c d (λ e. ne (sym e)) ∙ a.fresh;
      pool = is
          ∙ (λ i. with_chain (without q c) d (joined (shown_adds a i) (kept_with p q d w c a.pool ne i)))
          ∙ ap (λ (s : PoolView). with_chain (without s c) d (joined w (chain_of p c))) a.pool
          ∙ (λ i. record {
            mbufs = p.mbufs;
            clusters = p.clusters;
            chains = replaced p.chains c d w (joined w (chain_of p c)) i;
          });
    }

-- its front was cut off and freed
cut_left : {X : Type 0} (m : FinMap nat_cmp X) (c d : ℕ) (v w : X) → d ≢ c
    → finmap.remove (finmap.insert (finmap.insert m c v) d w) c ≡ finmap.insert (finmap.remove m c) d w
cut_left m c d v w ne = same _ _ (λ q. elim (cases_eq q c) [
  | inl e ↦ subst (λ (j : ℕ). finmap.get (finmap.remove (finmap.insert (finmap.insert m c v) d w) c) j
      ≡ finmap.get (finmap.insert (finmap.remove m c) d w) j) (sym e)
      (get_gone _ c ∙ sym (get_there _ d w c (λ is. ne (sym is)) ∙ get_gone m c))
  | inr nc ↦ get_left _ c q nc ∙ elim (cases_eq q d) [
    | inl e ↦ subst (λ (j : ℕ). finmap.get (finmap.insert (finmap.insert m c v) d w) j
        ≡ finmap.get (finmap.insert (finmap.remove m c) d w) j) (sym e) (get_here _ d w ∙ sym (get_here _ d w))
    | inr nd ↦ get_there _ d w q nd ∙ get_there m c v q nc ∙ sym (get_there _ d w q nd ∙ get_left m c q nc)
  ]
])

-- the other chains of the pool, after a chain was cut in two, and after a new chain was added
pub base_cut : (p q : PoolView) (c d : ℕ) (v w : ChainView) → Adds (with_chain p c v) q d w
    → without (without q d) c ≡ without p c
base_cut p q c d v w a =
    ap (λ (s : PoolView). without s c) (adds_undone (without q d) a (λ _. without q d))
    ∙ (λ i. record { mbufs = p.mbufs; clusters = p.clusters; chains = remove-insert_any p.chains c v i })

new_gone : {X : Type 0} (m : FinMap nat_cmp X) (c d : ℕ) (w : X) → finmap.get m d ≡ None → d ≢ c
    → finmap.remove (finmap.remove (finmap.insert m d w) c) d ≡ finmap.remove m c
new_gone m c d w none ne = same _ _ (λ q. elim (cases_eq q d) [
  | inl e ↦ subst (λ (j : ℕ). finmap.get (finmap.remove (finmap.remove (finmap.insert m d w) c) d) j
      ≡ finmap.get (finmap.remove m c) j) (sym e) (get_gone _ d ∙ sym (get_left m c d ne ∙ none))
  | inr nd ↦ get_left _ d q nd ∙ elim (cases_eq q c) [
    | inl e ↦ subst (λ (j : ℕ). finmap.get (finmap.remove (finmap.insert m d w) c) j ≡ finmap.get (finmap.remove m c) j)
        (sym e) (get_gone _ c ∙ sym (get_gone m c))
    | inr nc ↦ get_left _ c q nc ∙ get_there m d w q nd ∙ sym (get_left m c q nc)
  ]
])

pub base_new : (p q : PoolView) (c d : ℕ) (w : ChainView) → IsLive p c → Adds p q d w
    → without (without q c) d ≡ without p c
base_new p q c d w live a =
    ap (λ (s : PoolView). without (without s c) d) a.pool
    ∙ (λ i. record {
      mbufs = p.mbufs;
      clusters = p.clusters;
      chains = new_gone p.chains c d w a.fresh (λ e. apart p q d w a c live (sym e)) i;
    })
