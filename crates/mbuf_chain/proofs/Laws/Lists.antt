-- Joined lists of bytes, and the first bytes of a chain, for callers.
use Rattle.std.proofs.Common.{◌≡◌, ℕ, zero, suc, ◌-◌, ◌≤◌, List, [], ◌∷◌, ◌++◌, length, take, drop, refl, sym, ap, ◌∙◌, arith}
use Rattle.std.specs.Prelude.{slice_index_or}
use Rattle.std.proofs.lemmas.List.{take-append-le}
use Rattle.mbuf_chain.specs.Chain.{ChainView, Entry, entry_of, flat_bytes, no_entry, string}

pub take_over : (m : ℕ) (xs ys : List ℕ) → take m (xs ++ ys) ≡ take m xs ++ take (m - length xs) ys
take_over zero [] ys = refl
take_over (suc m) [] ys = let same : suc m ≡ suc m - 0 = omega arith in ap (λ (k : ℕ). take k ys) same
take_over zero (x ∷ xs) ys = let none : 0 ≡ 0 - suc (length xs) = omega arith in ap (λ (k : ℕ). take k ys) none
take_over (suc m) (x ∷ xs) ys =
    let same : m - length xs ≡ suc m - suc (length xs) = omega arith in
    ap (λ (zs : List ℕ). x ∷ zs) (take_over m xs ys) ∙ ap (λ (k : ℕ). (x ∷ take m xs) ++ take k ys) same

-- a piece that ends in front of the range
pub drop_over : (m : ℕ) (xs ys : List ℕ) → length xs ≤ m → drop m (xs ++ ys) ≡ drop (m - length xs) ys
drop_over m [] ys h = let same : m ≡ m - 0 = omega arith in ap (λ (k : ℕ). drop k ys) same
drop_over zero (x ∷ xs) ys h = absurd (omega arith)
drop_over (suc m) (x ∷ xs) ys h =
    let same : m - length xs ≡ suc m - suc (length xs) = omega arith in
    drop_over m xs ys (omega arith) ∙ ap (λ (k : ℕ). drop k ys) same

-- the first bytes of a chain whose first mbuf has them
pub first_bytes : (n : ℕ) (v : ChainView) → n ≤ length (entry_of v 0).bytes
    → take n (entry_of v 0).bytes ≡ take n (string v)
first_bytes n v long = go v.entries long
  where
    go : (es : List Entry) → n ≤ length (slice_index_or es 0 no_entry).bytes
        → take n (slice_index_or es 0 no_entry).bytes ≡ take n (flat_bytes es)
    go [] long = refl
    go (e ∷ es) long = sym (take-append-le n e.bytes (flat_bytes es) long)
