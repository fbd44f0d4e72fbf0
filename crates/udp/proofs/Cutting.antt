-- A chain cut to a datagram's data.
use Rattle.std.proofs.Common.{◌≡◌, ℕ, List, take, drop, ap, ◌∙◌}
use Rattle.mbuf_chain.specs.Chain.{Entry, ChainView, PoolView, flat_bytes, with_chain}
use Rattle.mbuf_chain.proofs.Laws.Maps.{insert-insert}
use Rattle.chain_ops.specs.Trims.{only_first, without_first}
use Rattle.chain_ops.proofs.Laws.Strings.{only_first_bytes, without_first_bytes}

-- a chain changed twice
pub with_twice : (p q r : PoolView) (c : ℕ) (v w : ChainView) → q ≡ with_chain p c v → r ≡ with_chain q c w
    → r ≡ with_chain p c w
with_twice p q r c v w e f =
    f ∙ ap (λ (s : PoolView). with_chain s c w) e
    ∙ (λ j. record { mbufs = p.mbufs; clusters = p.clusters; chains = insert-insert p.chains c v w j })

-- what is left are the data
pub data_of : (n : ℕ) (es : List Entry)
    → flat_bytes (without_first 8 (only_first n es)) ≡ drop 8 (take n (flat_bytes es))
data_of n es = without_first_bytes 8 (only_first n es) ∙ ap (drop 8) (only_first_bytes n es)
