-- Laws of the iterators, for callers.
use Rattle.std.proofs.Common.{◌≡◌, ℕ, List, [], ◌∷◌, ◌++◌, refl, ap}
use Rattle.std.specs.List.{concat}
use Rattle.mbuf_chain.specs.Chain.{Entry, ChainView, string, flat_bytes}
use Rattle.mbuf_chain.specs.Pieces.{chain_pieces, pieces_of}

concat_of : (es : List Entry) → concat (pieces_of es) ≡ flat_bytes es
concat_of [] = refl
concat_of (e ∷ es) = ap (λ (xs : List ℕ). e.bytes ++ xs) (concat_of es)

-- the concatenated bytes of all mbufs are the chain's bytes
pub concat_pieces : (v : ChainView) → concat (chain_pieces v) ≡ string v
concat_pieces v = concat_of v.entries
