-- The items of the iterators over a chain (this project's own).
use Rattle.std.specs.Prelude.{ℕ, List, map}
use Rattle.mbuf_chain.specs.Chain.{Entry, ChainView}

-- the bytes of each entry
abbrev pub pieces_of : List Entry → List (List ℕ)
pieces_of es = map (λ e. e.bytes) es

-- the bytes of each entry of the chain, in order
abbrev pub chain_pieces : ChainView → List (List ℕ)
chain_pieces v = pieces_of v.entries
