-- A law that callers may cite: the digits that the crate hex writes are those of `Bytes`.
use Rattle.std.proofs.Common.{◌≡◌, ℕ, zero, suc, ◌/◌, ◌%◌, ◌<◌, ◌==◌, Bool, true, ◌&&◌, inl, inr, [], ◌∷◌, slice_index, refl, arith}
use Rattle.std.proofs.lemmas.Bool.{and_parts, cases_lt, eqb-true}
use Rattle.hex.specs.Hex.{encode_lower, encode_with, lower_digits}
use Rattle.play_line.specs.Bytes.{digit, digits}

-- the first n entries of the table are the digits of their indices, as a test that computes
abbrev all_same : ℕ → Bool
all_same zero = true
all_same (suc n) = (slice_index lower_digits n == digit n) && all_same n

same_at : (n k : ℕ) → all_same n ≡ true → k < n → slice_index lower_digits k ≡ digit k
same_at zero k h lt = absurd (omega arith)
same_at (suc n) k h lt =
    let parts = and_parts (slice_index lower_digits n == digit n) (all_same n) h in
    elim (cases_lt k n) [
      | inl below ↦ same_at n k parts.1 below
      | inr top ↦
          let e : k ≡ n = omega arith in
          rw e (eqb-true (slice_index lower_digits n) (digit n) parts.0)
    ]

-- the digit of a number below 16
pub table_digit : (k : ℕ) → k < 16 → slice_index lower_digits k ≡ digit k
table_digit k lt = same_at 16 k refl lt

-- the two digits of a byte
pub table_digits : (byte : ℕ) → byte < 256 → encode_lower (byte ∷ []) ≡ digits byte
unfolding encode_with
table_digits byte lt = rw (table_digit (byte / 16) (omega arith), table_digit (byte % 16) (omega arith)) refl
