-- Laws of lists for operations on chains.
use Rattle.std.proofs.Common.{◌≡◌, ℕ, ◌-◌, ◌≤◌, min, List, ◌++◌, length, take, drop, sym, ap, ◌∙◌, arith, inl, inr}
use Rattle.std.proofs.lemmas.Bool.{cases_lt}
use Rattle.std.proofs.lemmas.List.{take_all, drop_all, length-drop, drop-append-le}
use Rattle.mbuf_chain.proofs.Laws.Lists.{take_over, drop_over}

pub drop-append : (n : ℕ) (xs ys : List ℕ) → drop n (xs ++ ys) ≡ drop n xs ++ drop (n - length xs) ys
drop-append n xs ys = elim (cases_lt n (length xs)) [
  | inl l ↦ let none : 0 ≡ n - length xs = omega arith in
      drop-append-le n xs ys (omega arith) ∙ ap (λ (k : ℕ). drop n xs ++ drop k ys) none
  | inr l ↦ drop_over n xs ys l ∙ ap (λ (zs : List ℕ). zs ++ drop (n - length xs) ys) (sym (drop_all n xs l))
]

pub take_least : (m : ℕ) (xs : List ℕ) → take m xs ≡ take (min (length xs) m) xs
take_least m xs = elim (cases_lt m (length xs)) [
  | inl h ↦ let same : m ≡ min (length xs) m = omega arith in ap (λ (k : ℕ). take k xs) same
  | inr h ↦ take_all m xs h ∙ sym (take_all (min (length xs) m) xs (omega arith))
]

-- a range that begins in a piece: its bytes in this piece, and then those in the rest
pub piece_copied : (piece rest : List ℕ) (skip k want : ℕ) → skip ≤ length piece → k ≡ min (length piece - skip) want
    → take want (drop skip (piece ++ rest)) ≡ take k (drop skip piece) ++ take (want - k) rest
piece_copied piece rest skip k want inside is =
    let p : List ℕ = drop skip piece in
    let len : length p ≡ length piece - skip = length-drop skip piece in
    let k' : min (length p) want ≡ k = omega arith in
    let less : want - length p ≡ want - k = omega arith in
    ap (take want) (drop-append-le skip piece rest (omega arith)) ∙ take_over want p rest
    ∙ (λ j. take_least want p j ++ take (less j) rest)
    ∙ ap (λ (n : ℕ). take n p ++ take (want - k) rest) k'
