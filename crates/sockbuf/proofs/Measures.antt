-- Sums over a chain's mbufs.
use Rattle.std.proofs.Common.{◌≡◌, ℕ, suc, ◌+◌, ◌≤◌, cond, List, [], ◌∷◌, length, filter_map, Option, None, Some, is_some, refl, ap, arith}
use Rattle.std.proofs.lemmas.List.Sums.{sum_by-cons}
use Rattle.mbuf_chain.specs.Chain.{Entry, PoolView, IsLive, chain_of, layout_of, mbufs_of}
use Rattle.mbuf_chain.specs.Frames.{IsBounded}
use Rattle.mbuf_chain.specs.Owners.{IsOwned}
use Rattle.mbuf_chain.proofs.Laws.Owners.{owned_more}
use Rattle.mbuf_chain.proofs.Laws.Accounts.{owned_held}
use Rattle.ledger.specs.Accounts.{entries_weight}

-- one entry of a layout for each mbuf
pub layout_long : (es : List Entry) → length (layout_of es) ≡ length es
layout_long [] = refl
layout_long (e ∷ es) = ap suc (layout_long es)

-- how many of them refer to a cluster
abbrev pub references_in : List (ℕ × Option ℕ) → ℕ
references_in [] = 0
references_in (x ∷ xs) = cond (is_some x.1) 1 0 + references_in xs

pub references_are : (es : List Entry) → references_in (layout_of es) ≡ length (entries_weight es).bag
references_are [] = refl
references_are (e ∷ es) = go e.cluster (references_are es)
  where
    go : (o : Option ℕ) → references_in (layout_of es) ≡ length (entries_weight es).bag
        → cond {A = ℕ} (is_some o) 1 0 + references_in (layout_of es)
        ≡ length (filter_map (λ (e : Entry). e.cluster) (record { bytes = e.bytes; start = e.start; cluster = o } ∷ es))
    go None h = omega (arith, h)
    go (Some k) h = omega (arith, h)

pub bag_few : (es : List Entry) → length (entries_weight es).bag ≤ length es
bag_few [] = omega arith
bag_few (e ∷ es) = go e.cluster (bag_few es)
  where
    go : (o : Option ℕ) → length (entries_weight es).bag ≤ length es
        → length (filter_map (λ (e : Entry). e.cluster) (record { bytes = e.bytes; start = e.start; cluster = o } ∷ es))
        ≤ suc (length es)
    go None h = omega (arith, h)
    go (Some k) h = omega (arith, h)

pub chain_few : (p : PoolView) (c : ℕ) → IsLive p c → IsBounded p → length (chain_of p c).entries ≤ 65535
chain_few p c live b =
    let owned : IsOwned p (c ∷ []) = owned_more p c [] (λ k. omega arith) live refl in
    omega (arith, owned_held p (c ∷ []) owned, sum_by-cons (λ k. mbufs_of (chain_of p k)) c [], b.few, b.small)
