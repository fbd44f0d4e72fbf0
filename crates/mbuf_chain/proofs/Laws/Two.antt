-- A caller that holds two chains: steps on one or the other leave the rest of the pool unchanged.
use Rattle.std.proofs.Common.{◌≡◌, ◌≢◌, ℕ, None, refl, sym, ap, ◌∙◌, subst, inl, inr}
use Rattle.std.specs.FinMap as finmap
use Rattle.std.proofs.lemmas.Bool.{cases_eq}
use Rattle.mbuf_chain.specs.Chain.{ChainView, PoolView, IsLive, chain_of, with_chain, without, Adds}
use Rattle.mbuf_chain.proofs.Maps.{same, get_gone, get_here, get_there, get_left}
use Rattle.mbuf_chain.proofs.Laws.Owners.{live_with, kept_with, chain_left}
use Rattle.mbuf_chain.proofs.Laws.Steps.{live_without, live_beside, live_shown, apart}

-- c and d are live, and p without them is b
pub record HasTwo (b p : PoolView) (c d : ℕ) : Type 0 where
  pub mbufs : p.mbufs ≡ b.mbufs
  pub clusters : p.clusters ≡ b.clusters
  pub first : finmap.get b.chains c ≡ None
  pub second : finmap.get b.chains d ≡ None
  pub apart : c ≢ d
  pub live_first : IsLive p c
  pub live_second : IsLive p d
  pub others : (k : ℕ) → k ≢ c → k ≢ d → finmap.get p.chains k ≡ finmap.get b.chains k

pub two_start : (p : PoolView) (c d : ℕ) → IsLive p c → IsLive p d → c ≢ d → HasTwo (without (without p d) c) p c d
two_start p c d lc ld ne = record {
  mbufs = refl;
  clusters = refl;
  first = get_gone (finmap.remove p.chains d) c;
  second = get_left (finmap.remove p.chains d) c d (λ e. ne (sym e)) ∙ get_gone p.chains d;
  apart = ne;
  live_first = lc;
  live_second = ld;
  others = λ k nc nd. sym (get_left (finmap.remove p.chains d) c k nc ∙ get_left p.chains d k nd);
}

pub two_first : {b p : PoolView} {c d : ℕ} (q : PoolView) (v : ChainView) → HasTwo b p c d → q ≡ with_chain p c v
    → HasTwo b q c d
two_first {b} {p} {c} {d} q v h is = record {
  mbufs = ap (λ (s : PoolView). s.mbufs) is ∙ h.mbufs;
  clusters = ap (λ (s : PoolView). s.clusters) is ∙ h.clusters;
  first = h.first;
  second = h.second;
  apart = h.apart;
  live_first = live_shown p q c v is;
  live_second = live_with p q c v d is h.live_second;
  others = λ k nc nd. ap (λ (s : PoolView). finmap.get s.chains k) is ∙ get_there p.chains c v k nc ∙ h.others k nc nd;
}

pub two_second : {b p : PoolView} {c d : ℕ} (q : PoolView) (v : ChainView) → HasTwo b p c d → q ≡ with_chain p d v
    → HasTwo b q c d
two_second {b} {p} {c} {d} q v h is = record {
  mbufs = ap (λ (s : PoolView). s.mbufs) is ∙ h.mbufs;
  clusters = ap (λ (s : PoolView). s.clusters) is ∙ h.clusters;
  first = h.first;
  second = h.second;
  apart = h.apart;
  live_first = live_with p q d v c is h.live_first;
  live_second = live_shown p q d v is;
  others = λ k nc nd. ap (λ (s : PoolView). finmap.get s.chains k) is ∙ get_there p.chains d v k nd ∙ h.others k nc nd;
}

-- the second chain was replaced by another one
pub two_next : {b p : PoolView} {c d : ℕ} {w : ChainView} (q : PoolView) (e : ℕ) → HasTwo b p c d
    → Adds (without p d) q e w → HasTwo b q c e
two_next {b} {p} {c} {d} {w} q e h a =
    let left : IsLive (without p d) c = live_without p (without p d) d refl c h.apart h.live_first in
    let ne : c ≢ e = apart (without p d) q e w a c left in
    record {
      mbufs = ap (λ (s : PoolView). s.mbufs) a.pool ∙ h.mbufs;
      clusters = ap (λ (s : PoolView). s.clusters) a.pool ∙ h.clusters;
      first = h.first;
      second = elim (cases_eq e d) [
        | inl is ↦ ap (finmap.get b.chains) is ∙ h.second
        | inr nd ↦ sym (h.others e (λ is. ne (sym is)) nd) ∙ sym (get_left p.chains d e nd) ∙ a.fresh
      ];
      apart = ne;
      live_first = live_beside (without p d) q e w a c left;
      live_second = live_shown (without p d) q e w a.pool;
      others =
          λ k nc nk. ap (λ (s : PoolView). finmap.get s.chains k) a.pool ∙ get_there (finmap.remove p.chains d) e w k nk
          ∙ elim (cases_eq k d) [
            | inl is ↦ ap (finmap.get (finmap.remove p.chains d)) is ∙ get_gone p.chains d
                ∙ sym (ap (finmap.get b.chains) is ∙ h.second)
            | inr nd ↦ get_left p.chains d k nd ∙ h.others k nc nd
          ];
    }

-- the first chain is unchanged after that
pub kept_next : {b p : PoolView} {c d : ℕ} {w : ChainView} (q : PoolView) (e : ℕ) → HasTwo b p c d
    → Adds (without p d) q e w → chain_of q c ≡ chain_of p c
kept_next {b} {p} {c} {d} {w} q e h a =
    let left : IsLive (without p d) c = live_without p (without p d) d refl c h.apart h.live_first in
    kept_with (without p d) q e w c a.pool (apart (without p d) q e w a c left) ∙ chain_left p d c h.apart

-- ---- the pool with one of the two chains left
one_left : (b q : PoolView) (c : ℕ) → q.mbufs ≡ b.mbufs → q.clusters ≡ b.clusters → finmap.get b.chains c ≡ None
    → IsLive q c → ((k : ℕ) → k ≢ c → finmap.get q.chains k ≡ finmap.get b.chains k)
    → Adds b q c (chain_of q c)
one_left b q c em ec none live others =
    let chains : q.chains ≡ finmap.insert b.chains c (chain_of q c) = same _ _ (λ k. elim (cases_eq k c) [
      | inl e ↦ subst (λ (j : ℕ). finmap.get q.chains j ≡ finmap.get (finmap.insert b.chains c (chain_of q c)) j)
          (sym e) (live ∙ sym (get_here b.chains c (chain_of q c)))
      | inr ne ↦ others k ne ∙ sym (get_there b.chains c (chain_of q c) k ne)
    ]) in
    record { fresh = none; pool = λ i. record { mbufs = em i; clusters = ec i; chains = chains i } }

-- the second one was freed
pub two_freed : {b p : PoolView} {c d : ℕ} (q : PoolView) → HasTwo b p c d → q ≡ without p d → Adds b q c (chain_of q c)
two_freed {b} {p} {c} {d} q h is =
    one_left b q c (ap (λ (s : PoolView). s.mbufs) is ∙ h.mbufs) (ap (λ (s : PoolView). s.clusters) is ∙ h.clusters)
    h.first (live_without p q d is c h.apart h.live_first)
    (λ k nc. ap (λ (s : PoolView). finmap.get s.chains k) is ∙ elim (cases_eq k d) [
      | inl e ↦ ap (finmap.get (finmap.remove p.chains d)) e ∙ get_gone p.chains d
          ∙ sym (ap (finmap.get b.chains) e ∙ h.second)
      | inr nd ↦ get_left p.chains d k nd ∙ h.others k nc nd
    ])

-- the second chain was linked after the first one, whose value is then v
pub two_linked : {b p : PoolView} {c d : ℕ} (q : PoolView) (v : ChainView) → HasTwo b p c d
    → q ≡ with_chain (without p d) c v → Adds b q c (chain_of q c)
two_linked {b} {p} {c} {d} q v h is =
    one_left b q c (ap (λ (s : PoolView). s.mbufs) is ∙ h.mbufs) (ap (λ (s : PoolView). s.clusters) is ∙ h.clusters)
    h.first (live_shown (without p d) q c v is)
    (λ k nc. ap (λ (s : PoolView). finmap.get s.chains k) is ∙ get_there (finmap.remove p.chains d) c v k nc
    ∙ elim (cases_eq k d) [
      | inl e ↦ ap (finmap.get (finmap.remove p.chains d)) e ∙ get_gone p.chains d
          ∙ sym (ap (finmap.get b.chains) e ∙ h.second)
      | inr nd ↦ get_left p.chains d k nd ∙ h.others k nc nd
    ])

-- a new chain was added to a live one
pub two_new : {p q : PoolView} {d : ℕ} {w : ChainView} (c : ℕ) → IsLive p c → Adds p q d w → HasTwo (without p c) q c d
two_new {p} {q} {d} {w} c live a =
    let ne : c ≢ d = apart p q d w a c live in
    record {
      mbufs = ap (λ (s : PoolView). s.mbufs) a.pool;
      clusters = ap (λ (s : PoolView). s.clusters) a.pool;
      first = get_gone p.chains c;
      second = get_left p.chains c d (λ e. ne (sym e)) ∙ a.fresh;
      apart = ne;
      live_first = live_beside p q d w a c live;
      live_second = live_shown p q d w a.pool;
      others =
          λ k nc nd. ap (λ (s : PoolView). finmap.get s.chains k) a.pool ∙ get_there p.chains d w k nd
          ∙ sym (get_left p.chains c k nc);
    }

-- the first chain was cut, and its second part linked after the second chain
pub two_moved : {b p : PoolView} {c d : ℕ} (q r : PoolView) (e : ℕ) (v w x : ChainView) → HasTwo b p c d
    → Adds (with_chain p c v) q e w → r ≡ with_chain (without q e) d x → HasTwo b r c d
two_moved {b} {p} {c} {d} q r e v w x h a is =
    let two : HasTwo b (with_chain p c v) c d = two_first (with_chain p c v) v h refl in
    let nc : c ≢ e = apart (with_chain p c v) q e w a c two.live_first in
    let nd : d ≢ e = apart (with_chain p c v) q e w a d two.live_second in
    let live : IsLive (without q e) c =
    live_without q (without q e) e refl c nc (live_beside (with_chain p c v) q e w a c two.live_first) in
    record {
      mbufs = ap (λ (s : PoolView). s.mbufs) is ∙ ap (λ (s : PoolView). s.mbufs) a.pool ∙ h.mbufs;
      clusters = ap (λ (s : PoolView). s.clusters) is ∙ ap (λ (s : PoolView). s.clusters) a.pool ∙ h.clusters;
      first = h.first;
      second = h.second;
      apart = h.apart;
      live_first = live_with (without q e) r d x c is live;
      live_second = live_shown (without q e) r d x is;
      others =
          λ k kc kd. ap (λ (s : PoolView). finmap.get s.chains k) is ∙ get_there (finmap.remove q.chains e) d x k kd
          ∙ elim (cases_eq k e) [
            | inl eq ↦ ap (finmap.get (finmap.remove q.chains e)) eq ∙ get_gone q.chains e
                ∙ sym (sym (two.others k kc kd) ∙ ap (finmap.get (finmap.insert p.chains c v)) eq ∙ a.fresh)
            | inr ke ↦ get_left q.chains e k ke ∙ ap (λ (s : PoolView). finmap.get s.chains k) a.pool
                ∙ get_there (finmap.insert p.chains c v) e w k ke ∙ two.others k kc kd
          ];
    }

-- both chains stay
pub two_parts : (p q : PoolView) (c d : ℕ) → HasTwo (without p c) q c d
    → Adds (with_chain p c (chain_of q c)) q d (chain_of q d)
two_parts p q c d h =
    let nd : d ≢ c = λ e. h.apart (sym e) in
    one_left (with_chain p c (chain_of q c)) q d h.mbufs h.clusters
    (get_there p.chains c (chain_of q c) d nd ∙ sym (get_left p.chains c d nd) ∙ h.second) h.live_second
    (λ k kd. elim (cases_eq k c) [
      | inl e ↦ subst (λ (j : ℕ). finmap.get q.chains j ≡ finmap.get (finmap.insert p.chains c (chain_of q c)) j)
          (sym e) (h.live_first ∙ sym (get_here p.chains c (chain_of q c)))
      | inr kc ↦ h.others k kc kd ∙ get_left p.chains c k kc ∙ sym (get_there p.chains c (chain_of q c) k kc)
    ])
