-- What an operation leaves in the pool: the chain that it made or changed, and every other chain unchanged (this
-- project's own).
use Rattle.std.specs.Prelude.{◌≡◌, ℕ, ◌+◌, ◌≤◌, ◌<◌, List}
use Rattle.mbuf_chain.specs.Chain.{Entry, Front, PoolView, chain_of, with_chain, held_mbufs, Adds}

-- From p to q, chain c was made with that front and those entries, under a number that no chain had in p; all other
-- chains are unchanged. Which mbufs it has is left open. A changed chain, perhaps under another number, is `Makes
-- (without p c) q d ..`; two chains joined are `Makes (without (without p d) c) q c ..`.
pub record Makes (p q : PoolView) (c : ℕ) (f : Front) (es : List Entry) : Type 0 where
  pub adds : Adds p q c (chain_of q c)
  pub front : (chain_of q c).front ≡ f
  pub entries : (chain_of q c).entries ≡ es

-- from p to q, chain c became `es`, and chain d with `fs` was made under a number that no chain had; all other chains
-- are unchanged
pub record Parts (p q : PoolView) (c d : ℕ) (f : Front) (es : List Entry) (g : Front) (fs : List Entry) : Type 0 where
  pub made : Makes (with_chain p c (chain_of q c)) q d g fs
  pub front : (chain_of q c).front ≡ f
  pub entries : (chain_of q c).entries ≡ es

-- n mbufs are free, or fewer
abbrev pub HasMbufs : PoolView → ℕ → Type 0
HasMbufs p n = held_mbufs p + n ≤ p.mbufs

abbrev pub LacksMbufs : PoolView → ℕ → Type 0
LacksMbufs p n = p.mbufs < held_mbufs p + n
