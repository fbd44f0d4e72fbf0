-- Ranges of bytes across pieces.
use Rattle.std.proofs.Common.{◌≡◌, ℕ, ◌+◌, ◌-◌, ◌≤◌, min, List, [], ◌∷◌, ◌++◌, length, slice_index_or, take, drop, refl, sym, ap, ◌∙◌, arith, inl, inr, take_all}
use Rattle.std.proofs.lemmas.List.{length-drop, drop-append-le, take-append-le}
use Rattle.std.proofs.lemmas.Bool.{cases_lt}
use Rattle.mbuf_chain.proofs.Laws.Lists.{take_over}
use Rattle.mbuf_chain.specs.Chain.{ChainView, Entry, entry_of, flat_bytes, no_entry, string}

take_least : (m : ℕ) (xs : List ℕ) → take m xs ≡ take (min m (length xs)) xs
take_least m xs = elim (cases_lt m (length xs)) [
  | inl h ↦ let same : m ≡ min m (length xs) = omega arith in ap (λ (k : ℕ). take k xs) same
  | inr h ↦ take_all m xs h ∙ sym (take_all (min m (length xs)) xs (omega arith))
]

-- A piece in which the range begins or continues. `piece_copied` of chain_ops is the same with the arguments of `min`
-- exchanged, as in the code that it's for; neither crate depends on the other.
pub piece_taken : (piece rest : List ℕ) (skip k want : ℕ) → skip ≤ length piece → k ≡ min want (length piece - skip)
    → take want (drop skip (piece ++ rest)) ≡ take k (drop skip piece) ++ take (want - k) rest
piece_taken piece rest skip k want inside is =
    let p : List ℕ = drop skip piece in
    let len : length p ≡ length piece - skip = length-drop skip piece in
    let k' : min want (length p) ≡ k = omega arith in
    let less : want - length p ≡ want - k = omega arith in
    ap (take want) (drop-append-le skip piece rest inside) ∙ take_over want p rest
    ∙ (λ j. take_least want p j ++ take (less j) rest)
    ∙ ap (λ (n : ℕ). take n p ++ take (want - k) rest) k'

-- a range within the first mbuf
pub first_range : (off len : ℕ) (v : ChainView) → off + len ≤ length (entry_of v 0).bytes
    → take (off + len - off) (drop off (entry_of v 0).bytes) ≡ take len (drop off (string v))
first_range off len v inside =
    let count : off + len - off ≡ len = omega arith in
    ap (λ (n : ℕ). take n (drop off (entry_of v 0).bytes)) count ∙ go v.entries inside
  where
    go : (es : List Entry) → off + len ≤ length (slice_index_or es 0 no_entry).bytes
        → take len (drop off (slice_index_or es 0 no_entry).bytes) ≡ take len (drop off (flat_bytes es))
    go [] within = refl
    go (e ∷ es) within =
        let p : List ℕ = drop off e.bytes in
        let long : len ≤ length p = omega (arith, length-drop off e.bytes) in
        sym (ap (take len) (drop-append-le off e.bytes (flat_bytes es) (omega arith))
        ∙ take-append-le len p (flat_bytes es) long)
