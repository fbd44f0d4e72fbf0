-- Laws for owners of chains, for callers: what a step leaves unchanged, and the composition of steps.
use Rattle.std.proofs.Common.{◌≡◌, ◌≢◌, ℕ, zero, suc, ◌+◌, ◌<◌, ◌≤◌, cond, List, [], ◌∷◌, ◌++◌, Option, Some, None, is_some, unwrap_or, refl, sym, ap, ◌∙◌, subst, arith, inl, inr}
use Rattle.std.specs.FinMap as finmap
use Rattle.std.proofs.lemmas.Bool.{cases_eq, cond-false, ne_eqb}
use Rattle.mbuf_chain.specs.Chain.{ChainView, PoolView, IsLive, chain_of, with_chain, without, no_chain, Adds}
use Rattle.mbuf_chain.specs.Owners.{times_among, live_at, IsOwned, Moves}
use Rattle.mbuf_chain.specs.Frames.{SameAt}
pub use Rattle.mbuf_chain.specs.Kept.{times_same, chain_same, owned_same}
use Rattle.mbuf_chain.proofs.Maps.{same, get_here, get_there, get_gone, get_left}

-- ---- counting
pub times_other : (k c : ℕ) (xs : List ℕ) → k ≢ c → times_among k (c ∷ xs) ≡ times_among k xs
times_other k c xs ne = omega (arith, cond-false {A = ℕ} _ 1 0 (ne_eqb c k (λ e. ne (sym e))))

pub times-append : (k : ℕ) (xs ys : List ℕ) → times_among k (xs ++ ys) ≡ times_among k xs + times_among k ys
times-append k [] ys = omega arith
times-append k (x ∷ xs) ys = omega (arith, times-append k xs ys)

-- ---- live numbers
pub live_same : (p q : PoolView) (k : ℕ) → finmap.get q.chains k ≡ finmap.get p.chains k → live_at q k ≡ live_at p k
live_same p q k e = ap (λ (o : Option ChainView). cond {A = ℕ} (is_some o) 1 0) e

pub live_some : (p : PoolView) (k : ℕ) (v : ChainView) → finmap.get p.chains k ≡ Some v → live_at p k ≡ 1
live_some p k v e = ap (λ (o : Option ChainView). cond {A = ℕ} (is_some o) 1 0) e

pub live_none : (p : PoolView) (k : ℕ) → finmap.get p.chains k ≡ None → live_at p k ≡ 0
live_none p k e = ap (λ (o : Option ChainView). cond {A = ℕ} (is_some o) 1 0) e

pub live_at_most : (p : PoolView) (k : ℕ) → live_at p k ≤ 1
live_at_most p k =
    elim (finmap.get p.chains k) as (λ (o : Option ChainView). cond {A = ℕ} (is_some o) 1 0 ≤ 1)
    [ None ↦ omega arith | Some v ↦ omega arith ]

pub live_one : (p : PoolView) (k : ℕ) → IsLive p k → live_at p k ≡ 1
live_one p k l = live_some p k (chain_of p k) l

pub live_from : (p : PoolView) (k : ℕ) → 0 < live_at p k → IsLive p k
live_from p k l = go (finmap.get p.chains k) refl
  where
    go : (o : Option ChainView) → finmap.get p.chains k ≡ o → IsLive p k
    go None e = absurd (omega (arith, live_none p k e))
    go (Some v) e = e ∙ ap (λ (o : Option ChainView). Some (unwrap_or o no_chain)) (sym e)

pub none_from : (p : PoolView) (k : ℕ) → live_at p k ≡ 0 → finmap.get p.chains k ≡ None
none_from p k l = go (finmap.get p.chains k) refl
  where
    go : (o : Option ChainView) → finmap.get p.chains k ≡ o → finmap.get p.chains k ≡ None
    go None e = e
    go (Some v) e = absurd (omega (arith, live_some p k v e))

-- an owner's chains are live
pub live_owned : (p : PoolView) (xs : List ℕ) (k : ℕ) → IsOwned p xs → 0 < times_among k xs → IsLive p k
live_owned p xs k o h = live_from p k (omega (arith, o k))

pub live_first : (p : PoolView) (c : ℕ) (xs : List ℕ) → IsOwned p (c ∷ xs) → IsLive p c
live_first p c xs o = live_owned p (c ∷ xs) c o (omega (arith, times_same c xs))

-- an owner's first chain isn't among the others
pub apart_first : (p : PoolView) (c : ℕ) (xs : List ℕ) → IsOwned p (c ∷ xs) → times_among c xs ≡ 0
apart_first p c xs o = omega (arith, o c, times_same c xs, live_at_most p c)

-- a live chain that the owner doesn't have yet is added to its chains
pub owned_more : (p : PoolView) (c : ℕ) (xs : List ℕ) → IsOwned p xs → IsLive p c → times_among c xs ≡ 0
    → IsOwned p (c ∷ xs)
owned_more p c xs o l apart = λ k. elim (cases_eq k c) [
  | inl e ↦ subst (λ (j : ℕ). times_among j (c ∷ xs) ≤ live_at p j) (sym e)
      (omega (arith, times_same c xs, apart, live_one p c l))
  | inr ne ↦ omega (arith, o k, times_other k c xs ne)
]

-- ---- the value of a chain after a step
pub chain_here : (p : PoolView) (c : ℕ) (v : ChainView) → chain_of (with_chain p c v) c ≡ v
chain_here p c v = ap (λ o. unwrap_or o no_chain) (get_here p.chains c v)

pub chain_there : (p : PoolView) (c k : ℕ) (v : ChainView) → k ≢ c → chain_of (with_chain p c v) k ≡ chain_of p k
chain_there p c k v ne = ap (λ o. unwrap_or o no_chain) (get_there p.chains c v k ne)

pub live_here : (p : PoolView) (c : ℕ) (v : ChainView) → IsLive (with_chain p c v) c
live_here p c v =
    live_from (with_chain p c v) c (omega (arith, live_some (with_chain p c v) c v (get_here p.chains c v)))

-- the same, from the equation of the step
pub shown_with : (p q : PoolView) (c : ℕ) (v : ChainView) → q ≡ with_chain p c v → chain_of q c ≡ v
shown_with p q c v e = ap (λ (r : PoolView). chain_of r c) e ∙ chain_here p c v

pub kept_with : (p q : PoolView) (c : ℕ) (v : ChainView) (k : ℕ) → q ≡ with_chain p c v → k ≢ c
    → chain_of q k ≡ chain_of p k
kept_with p q c v k e ne = ap (λ (r : PoolView). chain_of r k) e ∙ chain_there p c k v ne

pub live_with : (p q : PoolView) (c : ℕ) (v : ChainView) (k : ℕ) → q ≡ with_chain p c v → IsLive p k → IsLive q k
live_with p q c v k e l = subst (λ (r : PoolView). IsLive r k) (sym e) (elim (cases_eq k c) [
  | inl is ↦ subst (λ (j : ℕ). IsLive (with_chain p c v) j) (sym is) (live_here p c v)
  | inr ne ↦ live_from (with_chain p c v) k
      (omega (arith, live_same p (with_chain p c v) k (get_there p.chains c v k ne), live_one p k l))
])

pub chain_left : (p : PoolView) (c k : ℕ) → k ≢ c → chain_of (without p c) k ≡ chain_of p k
chain_left p c k ne = ap (λ o. unwrap_or o no_chain) (get_left p.chains c k ne)

-- ---- two steps in a row, and steps with chains that they don't change
pub moves_none : (p : PoolView) (xs : List ℕ) → Moves p xs p xs
moves_none p xs = record { mbufs = refl; clusters = refl; others = λ k l h. refl; owned = λ k. refl }

pub moves_trans : {p q r : PoolView} {xs ys zs : List ℕ} → Moves p xs q ys → Moves q ys r zs → Moves p xs r zs
moves_trans {p} {q} {r} {xs} {ys} {zs} m n = record {
  mbufs = n.mbufs ∙ m.mbufs;
  clusters = n.clusters ∙ m.clusters;
  others = λ k l h.
      let same : finmap.get q.chains k ≡ finmap.get p.chains k = m.others k l h in
      let mid : times_among k ys ≡ 0 = omega (arith, m.owned k, live_same p q k same) in
      n.others k (live_from q k (omega (arith, live_same p q k same, live_one p k l))) mid ∙ same;
  owned = λ k. omega (arith, m.owned k, n.owned k);
}

-- the owner has other chains besides those of the step
pub moves_beside : {p q : PoolView} {xs ys : List ℕ} (us vs zs : List ℕ) → Moves p xs q ys
    → ((k : ℕ) → times_among k us ≡ times_among k zs + times_among k xs)
    → ((k : ℕ) → times_among k vs ≡ times_among k zs + times_among k ys)
    → Moves p us q vs
moves_beside us vs zs m a b = record {
  mbufs = m.mbufs;
  clusters = m.clusters;
  others = λ k l h. m.others k l (omega (arith, a k));
  owned = λ k. omega (arith, m.owned k, a k, b k);
}

-- the other chains come first in the list, or last
pub moves_after : {p q : PoolView} {xs ys : List ℕ} (zs : List ℕ) → Moves p xs q ys → Moves p (zs ++ xs) q (zs ++ ys)
moves_after {p} {q} {xs} {ys} zs m =
    moves_beside (zs ++ xs) (zs ++ ys) zs m (λ k. times-append k zs xs) (λ k. times-append k zs ys)

pub moves_before : {p q : PoolView} {xs ys : List ℕ} (zs : List ℕ) → Moves p xs q ys → Moves p (xs ++ zs) q (ys ++ zs)
moves_before {p} {q} {xs} {ys} zs m =
    moves_beside (xs ++ zs) (ys ++ zs) zs m (λ k. omega (arith, times-append k xs zs))
    (λ k. omega (arith, times-append k ys zs))

-- the order of an owner's list doesn't matter
pub moves_reordered : {p q : PoolView} {xs ys : List ℕ} (us vs : List ℕ) → Moves p xs q ys
    → ((k : ℕ) → times_among k us ≡ times_among k xs) → ((k : ℕ) → times_among k vs ≡ times_among k ys)
    → Moves p us q vs
moves_reordered us vs m a b = moves_beside us vs [] m (λ k. omega (arith, a k)) (λ k. omega (arith, b k))

pub owned_after : {p q : PoolView} {xs ys : List ℕ} → Moves p xs q ys → IsOwned p xs → IsOwned q ys
owned_after m o = λ k. omega (arith, m.owned k, o k)

-- an owner's other chains stay its own
pub owned_beside : {p q : PoolView} {xs ys : List ℕ} (zs : List ℕ) → Moves p xs q ys → IsOwned p (zs ++ xs)
    → IsOwned q (zs ++ ys)
owned_beside {p} {q} {xs} {ys} zs m o = λ k. omega (arith, m.owned k, o k, times-append k zs xs, times-append k zs ys)

-- chains that aren't among those of a step are unchanged
pub same_beside : {p q : PoolView} {xs ys : List ℕ} (zs : List ℕ) → Moves p xs q ys → IsOwned p zs
    → ((k : ℕ) → 0 < times_among k zs → times_among k xs ≡ 0) → SameAt p q zs
same_beside {p} {q} {xs} {ys} zs m o h =
    record { mbufs = m.mbufs; same = λ k l. m.others k (live_owned p zs k o l) (h k l) }

-- the same, if one owner has both these and the step's chains
pub same_after : {p q : PoolView} {xs ys : List ℕ} (zs : List ℕ) → Moves p xs q ys → IsOwned p (zs ++ xs)
    → SameAt p q zs
same_after {p} {q} {xs} {ys} zs m o =
    same_beside zs m (λ k. omega (arith, o k, times-append k zs xs))
    (λ k h. omega (arith, o k, times-append k zs xs, live_at_most p k))

pub same_nothing : (p q : PoolView) (xs : List ℕ) → xs ≡ [] → q.mbufs ≡ p.mbufs → SameAt p q xs
same_nothing p q xs e m = record { mbufs = m; same = λ k h. absurd (omega (arith, h, ap (times_among k) e)) }

pub same_trans : (p q r : PoolView) (xs : List ℕ) → SameAt p q xs → SameAt q r xs → SameAt p r xs
same_trans p q r xs a b = record { mbufs = b.mbufs ∙ a.mbufs; same = λ k h. b.same k h ∙ a.same k h }

pub same_part : (p q : PoolView) (xs ys : List ℕ) → SameAt p q xs → ((k : ℕ) → times_among k ys ≤ times_among k xs)
    → SameAt p q ys
same_part p q xs ys s le = record { mbufs = s.mbufs; same = λ k h. s.same k (omega (arith, le k)) }

-- ---- the steps of one chain
pub moves_without : (p q : PoolView) (c : ℕ) → IsLive p c → q ≡ without p c → Moves p (c ∷ []) q []
moves_without p q c l e = subst (λ (r : PoolView). Moves p (c ∷ []) r []) (sym e) (record {
  mbufs = refl;
  clusters = refl;
  others =
      λ k l' h. get_left p.chains c k
      (λ e. absurd (omega (arith, times_same c [], ap (λ (j : ℕ). times_among j (c ∷ [])) e)));
  owned = λ k. elim (cases_eq k c) [
    | inl e ↦ subst (λ (j : ℕ). live_at (without p c) j + times_among j (c ∷ []) ≡ live_at p j + 0) (sym e)
        (omega (arith, live_none (without p c) c (get_gone p.chains c), live_one p c l, times_same c []))
    | inr ne ↦ omega (arith, live_same p (without p c) k (get_left p.chains c k ne), times_other k c [] ne)
  ];
})

pub moves_with : (p q : PoolView) (c : ℕ) (v : ChainView) → IsLive p c → q ≡ with_chain p c v
    → Moves p (c ∷ []) q (c ∷ [])
moves_with p q c v l e = subst (λ (r : PoolView). Moves p (c ∷ []) r (c ∷ [])) (sym e) (record {
  mbufs = refl;
  clusters = refl;
  others =
      λ k l' h. get_there p.chains c v k
      (λ e. absurd (omega (arith, times_same c [], ap (λ (j : ℕ). times_among j (c ∷ [])) e)));
  owned = λ k. elim (cases_eq k c) [
    | inl e ↦ subst (λ (j : ℕ). live_at (with_chain p c v) j + times_among j (c ∷ [])
        ≡ live_at p j + times_among j (c ∷ []))
        (sym e) (omega (arith, live_some (with_chain p c v) c v (get_here p.chains c v), live_one p c l))
    | inr ne ↦ omega (arith, live_same p (with_chain p c v) k (get_there p.chains c v k ne))
  ];
})

pub moves_adds : {p q : PoolView} {c : ℕ} {v : ChainView} → Adds p q c v → Moves p [] q (c ∷ [])
moves_adds {p} {q} {c} {v} a = subst (λ (r : PoolView). Moves p [] r (c ∷ [])) (sym a.pool) (record {
  mbufs = refl;
  clusters = refl;
  others =
      λ k l h. get_there p.chains c v k
      (λ e. absurd (omega (arith, live_one p k l, ap (live_at p) e, live_none p c a.fresh)));
  owned = λ k. elim (cases_eq k c) [
    | inl e ↦ subst (λ (j : ℕ). live_at (with_chain p c v) j + 0 ≡ live_at p j + times_among j (c ∷ [])) (sym e)
        (omega (
          arith,
          live_some (with_chain p c v) c v (get_here p.chains c v),
          live_none p c a.fresh,
          times_same c [],
        ))
    | inr ne ↦ omega (arith, live_same p (with_chain p c v) k (get_there p.chains c v k ne), times_other k c [] ne)
  ];
})

-- an owner changes one of its chains
pub moves_within : (p q : PoolView) (c : ℕ) (v : ChainView) (xs : List ℕ) → IsLive p c → 0 < times_among c xs
    → q ≡ with_chain p c v → Moves p xs q xs
moves_within p q c v xs l h e = subst (λ (r : PoolView). Moves p xs r xs) (sym e) (record {
  mbufs = refl;
  clusters = refl;
  others = λ k l' none. get_there p.chains c v k (λ is. absurd (omega (arith, ap (λ (j : ℕ). times_among j xs) is)));
  owned = λ k. elim (cases_eq k c) [
    | inl e ↦ subst (λ (j : ℕ). live_at (with_chain p c v) j + times_among j xs ≡ live_at p j + times_among j xs)
        (sym e)
        (omega (arith, live_some (with_chain p c v) c v (get_here p.chains c v), live_one p c l))
    | inr ne ↦ omega (arith, live_same p (with_chain p c v) k (get_there p.chains c v k ne))
  ];
})

-- a new chain's number differs from those of an owner's chains
pub apart_new : {p q : PoolView} {c : ℕ} {v : ChainView} (xs : List ℕ) → Adds p q c v → IsOwned p xs
    → times_among c xs ≡ 0
apart_new {p} {q} {c} {v} xs a o = omega (arith, o c, live_none p c a.fresh)

-- adding the new chain leaves them unchanged
pub same_adds : {p q : PoolView} {c : ℕ} {v : ChainView} (xs : List ℕ) → Adds p q c v → IsOwned p xs → SameAt p q xs
same_adds xs a o = same_beside xs (moves_adds a) o (λ k h. refl)

-- ---- a step of one chain after others
pub then_without : {p q : PoolView} {xs : List ℕ} (r : PoolView) (c : ℕ) (ys : List ℕ) → Moves p xs q (c ∷ ys)
    → IsOwned p xs → r ≡ without q c → Moves p xs r ys
then_without {p} {q} {xs} r c ys m o e =
    moves_trans m (moves_beside (c ∷ ys) ys ys (moves_without q r c (live_first q c ys (owned_after m o)) e)
    (λ k. omega arith) (λ k. omega arith))

pub then_with : {p q : PoolView} {xs : List ℕ} (r : PoolView) (c : ℕ) (v : ChainView) (ys : List ℕ)
    → Moves p xs q (c ∷ ys) → IsOwned p xs → r ≡ with_chain q c v → Moves p xs r (c ∷ ys)
then_with {p} {q} {xs} r c v ys m o e =
    moves_trans m (moves_beside (c ∷ ys) (c ∷ ys) ys (moves_with q r c v (live_first q c ys (owned_after m o)) e)
    (λ k. omega arith) (λ k. omega arith))

pub then_adds : {p q r : PoolView} {xs ys : List ℕ} {c : ℕ} {v : ChainView} → Moves p xs q ys → Adds q r c v
    → Moves p xs r (c ∷ ys)
then_adds {p} {q} {r} {xs} {ys} {c} {v} m a =
    moves_trans m (moves_beside ys (c ∷ ys) ys (moves_adds a) (λ k. omega arith) (λ k. omega arith))

-- the new chain is live, and has the value that was added
pub live_adds : {p q : PoolView} {c : ℕ} {v : ChainView} → Adds p q c v → IsLive q c
live_adds {p} {q} {c} {v} a = subst (λ (r : PoolView). IsLive r c) (sym a.pool) (live_here p c v)

pub shown_adds : {p q : PoolView} {c : ℕ} {v : ChainView} → Adds p q c v → chain_of q c ≡ v
shown_adds {p} {q} {c} {v} a = shown_with p q c v a.pool

-- a step of one chain leaves the others of its owner
pub same_with : (p q : PoolView) (c : ℕ) (v : ChainView) (xs : List ℕ) → times_among c xs ≡ 0 → q ≡ with_chain p c v
    → SameAt p q xs
same_with p q c v xs h e = subst (λ (r : PoolView). SameAt p r xs) (sym e)
    (record {
      mbufs = refl;
      same = λ k l. get_there p.chains c v k
          (λ is. absurd (omega (arith, ap (λ (j : ℕ). times_among j xs) is)));
    })

pub same_without : (p q : PoolView) (c : ℕ) (xs : List ℕ) → times_among c xs ≡ 0 → q ≡ without p c → SameAt p q xs
same_without p q c xs h e = subst (λ (r : PoolView). SameAt p r xs) (sym e)
    (record {
      mbufs = refl;
      same = λ k l. get_left p.chains c k
          (λ is. absurd (omega (arith, ap (λ (j : ℕ). times_among j xs) is)));
    })

-- ---- a step from no chains to no chains leaves the pool unchanged
pub moves_nothing : {p q : PoolView} → Moves p [] q [] → q ≡ p
moves_nothing {p} {q} m =
    let chains : q.chains ≡ p.chains = same q.chains p.chains (λ k. at k (live_at p k) refl) in
    λ i. record { mbufs = m.mbufs i; clusters = m.clusters i; chains = chains i }
  where
    at : (k n : ℕ) → live_at p k ≡ n → finmap.get q.chains k ≡ finmap.get p.chains k
    at k zero e = none_from q k (omega (arith, m.owned k)) ∙ sym (none_from p k e)
    at k (suc n) e = m.others k (live_from p k (omega arith)) refl
