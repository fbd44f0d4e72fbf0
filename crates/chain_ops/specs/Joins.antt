-- Chains joined (m_cat; TCP/IP Illustrated, volume 2, chapter 2).
use Rattle.std.specs.Prelude.{ℕ, nat_lt, if◌then◌else◌, List, [], ◌∷◌, length}
use Rattle.mbuf_chain.specs.Chain.{Entry, PoolView, chain_of, without, trailing_space}
use Rattle.mbuf_chain.specs.Steps.{with_back}
use Rattle.chain_ops.specs.Makes.{Makes}

-- an entry, and the entries that follow it: while the next one is shorter than the trailing space, its bytes move into
-- the entry
abbrev pub filled_up : Entry → List Entry → List Entry
filled_up e [] = e ∷ []
filled_up e (f ∷ fs) =
    if nat_lt (length f.bytes) (trailing_space e) then filled_up (with_back e f.bytes) fs else e ∷ f ∷ fs

-- the entries of two chains joined: entries of the second chain fill up the last entry of the first
abbrev pub cat : List Entry → List Entry → List Entry
cat [] fs = fs
cat (e ∷ []) fs = filled_up e fs
cat (e ∷ f ∷ es) fs = e ∷ cat (f ∷ es) fs

-- from p to q, chain d was joined to chain c, which keeps its number and its front; all other chains are unchanged
abbrev pub Concatenates : PoolView → PoolView → ℕ → ℕ → Type 0
Concatenates p q c d =
    Makes (without (without p d) c) q c (chain_of p c).front (cat (chain_of p c).entries (chain_of p d).entries)
