-- An mbuf with an address, linked before a chain.
use Rattle.std.proofs.Common.{◌≡◌, ℕ, true, false, List, [], ◌∷◌, drop, None, refl, ap, ◌∙◌, subst, arith}
use Rattle.flat_model.specs.declared.address.Addr.{Addr}
use Rattle.mbuf_chain.specs.Chain.{ChainView, PoolView, IsLive, alone, chain_of, with_chain, without, Adds}
use Rattle.mbuf_chain.specs.Steps.{one_mbuf, joined, second_part}
use Rattle.mbuf_chain.specs.Owners.{IsOwned, Moves}
use Rattle.mbuf_chain.proofs.Laws.Owners.{owned_more, moves_none, moves_without, moves_reordered, then_adds, then_with, then_without, shown_adds, shown_with, kept_with}
use Rattle.mbuf_chain.proofs.Laws.Steps.{apart}
use Rattle.sockbuf.specs.SockBuf.{sockaddr_bytes, sockaddr_in, address_entry}

pub address_again : (a : Addr) → sockaddr_in (sockaddr_bytes a) ≡ a
address_again a =
    let ip : (sockaddr_in (sockaddr_bytes a)).ip ≡ a.ip = omega arith in
    let port : (sockaddr_in (sockaddr_bytes a)).port ≡ a.port = omega arith in
    λ i. record { ip = ip i; port = port i }

-- the chain with the address, before the other is linked after it
pub with_bytes : {p q : PoolView} {d : ℕ} (a : Addr) (bytes : List ℕ)
    → Adds p q d (one_mbuf true (record { bytes = bytes; start = 28; cluster = None }) d) → bytes ≡ sockaddr_bytes a
    → Adds p q d (one_mbuf true (address_entry a) d)
with_bytes {p} {q} {d} a bytes adds is =
    subst (λ (xs : List ℕ). Adds p q d (one_mbuf true (record { bytes = xs; start = 28; cluster = None }) d)) is adds

pub record Addressed (p : PoolView) (c : ℕ) (a : Addr) (q : PoolView) (d : ℕ) : Type 0 where
  pub entries : (chain_of q d).entries ≡ address_entry a ∷ (chain_of p c).entries
  pub headed : (chain_of q d).front.header ≡ true
  pub moves : Moves p (c ∷ []) q (d ∷ [])

pub addressed : {p q : PoolView} {d : ℕ} (s : PoolView) (c : ℕ) (a : Addr)
    → Adds p q d (one_mbuf true (address_entry a) d) → IsLive p c
    → s ≡ with_chain (without q c) d (joined (chain_of q d) (chain_of q c)) → Addressed p c a s d
addressed {p} {q} {d} s c a adds live linked =
    let front : chain_of q d ≡ one_mbuf true (address_entry a) d = shown_adds adds in
    let back : chain_of q c ≡ chain_of p c =
    kept_with p q d (one_mbuf true (address_entry a) d) c adds.pool
    (apart p q d (one_mbuf true (address_entry a) d) adds c live) in
    let shown : chain_of s d ≡ joined (one_mbuf true (address_entry a) d) (chain_of p c) =
    shown_with (without q c) s d (joined (chain_of q d) (chain_of q c)) linked ∙ (λ i. joined (front i) (back i)) in
    let owned : IsOwned p (c ∷ []) = owned_more p c [] (λ k. omega arith) live refl in
    let made : Moves p (c ∷ []) q (d ∷ c ∷ []) = then_adds (moves_none p (c ∷ [])) adds in
    let turned : Moves p (c ∷ []) q (c ∷ d ∷ []) =
    moves_reordered (c ∷ []) (c ∷ d ∷ []) made (λ k. refl) (λ k. omega arith) in
    let parted : Moves p (c ∷ []) (without q c) (d ∷ []) = then_without (without q c) c (d ∷ []) turned owned refl in
    record {
      entries = ap (λ (v : ChainView). v.entries) shown;
      headed = ap (λ (v : ChainView). v.front.header) shown;
      moves = then_with s d (joined (chain_of q d) (chain_of q c)) [] parted owned linked;
    }

-- ---- the first mbuf, removed again
pub record Stripped (p : PoolView) (c : ℕ) (q : PoolView) (d : ℕ) : Type 0 where
  pub entries : (chain_of q d).entries ≡ drop 1 (chain_of p c).entries
  pub front : (chain_of q d).front ≡ alone false
  pub moves : Moves p (c ∷ []) q (d ∷ [])

pub stripped : {p q : PoolView} {c d : ℕ} → IsLive p c → Adds (without p c) q d (second_part 1 (chain_of p c))
    → Stripped p c q d
stripped {p} {q} {c} {d} live adds = record {
  entries = ap (λ (v : ChainView). v.entries) (shown_adds adds);
  front = ap (λ (v : ChainView). v.front) (shown_adds adds);
  moves = then_adds (moves_without p (without p c) c live refl) adds;
}
