-- Bytes removed from an end of a chain (m_adj; TCP/IP Illustrated, volume 2, chapter 2): no mbuf is freed.
use Rattle.std.specs.Prelude.{ℕ, suc, ℤ, pos, negsuc, ◌-◌, min, List, [], ◌∷◌, length, take, drop}
use Rattle.mbuf_chain.specs.Chain.{Entry, flat_bytes}
use Rattle.mbuf_chain.specs.Steps.{narrowed}

-- the entries without their first n bytes
abbrev pub without_first : ℕ → List Entry → List Entry
without_first n [] = []
without_first n (e ∷ es) =
    narrowed e (min n (length e.bytes)) (length e.bytes - min n (length e.bytes))
    ∷ without_first (n - length e.bytes) es

-- the entries with no more than their first n bytes
abbrev pub only_first : ℕ → List Entry → List Entry
only_first n [] = []
only_first n (e ∷ es) = narrowed e 0 (min n (length e.bytes)) ∷ only_first (n - length e.bytes) es

-- the entries without their last n bytes
abbrev pub without_last : ℕ → List Entry → List Entry
without_last n es = only_first (length (flat_bytes es) - n) es

-- the entries without their first n bytes, or without their last ones if n is below 0
abbrev pub adjusted : ℤ → List Entry → List Entry
adjusted (pos n) es = without_first n es
adjusted (negsuc n) es = without_last (suc n) es

-- the same for bytes
abbrev pub adjusted_bytes : ℤ → List ℕ → List ℕ
adjusted_bytes (pos n) xs = drop n xs
adjusted_bytes (negsuc n) xs = take (length xs - suc n) xs
