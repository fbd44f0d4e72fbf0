-- Bytes copied to the front of a room.
use Rattle.std.proofs.Common.{◌≡◌, ℕ, List, ◌++◌, length, take, drop, sym, ap, ◌∙◌, arith}
use Rattle.std.specs.Prelude.{min}
use Rattle.std.proofs.lemmas.List.{length-take, take-append-le, take_min}
use Rattle.std.proofs.lemmas.Slice.{drop-append-drop}
use Rattle.std.proofs.Math.Seq.{take-length}

copied_len : (n k m : ℕ) (s to : List ℕ) → to ≡ take k (drop 0 s) → k ≡ n → n ≡ min (length s) m → length to ≡ n
copied_len n k m s to is_to is_k is_n = omega (
  arith,
  ap length (is_to ∙ ap (λ (j : ℕ). take j s) is_k),
  length-take n s,
  is_n,
)

pub copied : (n k m : ℕ) (s to rest : List ℕ) → to ≡ take k (drop 0 s) → k ≡ n → n ≡ min (length s) m
    → take n (to ++ rest) ≡ take m s
copied n k m s to rest is_to is_k is_n =
    let to_is : to ≡ take n s = is_to ∙ ap (λ (j : ℕ). take j s) is_k in
    let size : length to ≡ n = copied_len n k m s to is_to is_k is_n in
    take-append-le n to rest (omega (arith, size))
    ∙ ap (λ (j : ℕ). take j to) (sym size)
    ∙ take-length to
    ∙ to_is
    ∙ ap (λ (j : ℕ). take j s) (let e : n ≡ min m (length s) = omega (arith, is_n) in e)
    ∙ take_min m s

-- the bytes of the buffer after them are unchanged
pub rest_kept : (n k m : ℕ) (s to room : List ℕ) → to ≡ take k (drop 0 s) → k ≡ n → n ≡ min (length s) m
    → drop n (to ++ drop n room) ≡ drop n room
rest_kept n k m s to room is_to is_k is_n = drop-append-drop n room to n (omega arith)
    (copied_len n k m s to is_to is_k is_n)
