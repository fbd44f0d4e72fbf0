-- One block of bytes, read as lanes of 32 bits.
use Rattle.std.proofs.Common.{◌≡◌, ℕ, zero, suc, ◌+◌, ◌*◌, ◌/◌, ◌%◌, ◌^◌, ◌<◌, List, [], ◌∷◌, length, replicate, bit_and, ap, ◌∙◌, arith, Fits, w8, get_or, take, take_all, ◌≤◌}
use Rattle.std.proofs.lemmas.Nat.{and_mask}
use Rattle.std.proofs.lemmas.Simd.{sum-zip2, length-chunk, chunk-fits}
use lib.Lanes.{Each1, zip2, sum_l, number_l, digits_l}
use Rattle.in_cksum.specs.Inside.{swapped_sum}

-- the low and the high halves of the n lanes of x
abbrev pub lows : ℕ → ℕ → List ℕ
lows n x = zip2 bit_and (digits_l 4294967296 n x) (replicate n 65535)

abbrev pub highs : ℕ → ℕ → List ℕ
highs n x = zip2 (λ a k. a / 2 ^ k) (digits_l 4294967296 n x) (replicate n 16)

halves : ℕ → ℕ → ℕ
halves n x = sum_l (lows n x) + sum_l (highs n x)

halves_step : (n x : ℕ) → halves (suc n) x ≡ x % 4294967296 % 65536 + x % 4294967296 / 65536 + halves n (x / 4294967296)
unfolding halves
halves_step n x = omega (arith, and_mask (x % 4294967296) 16)

halves_sum : (n : ℕ) (s : List ℕ) → length s ≡ 4 * n → Each1 (Fits w8) s → halves n (number_l 256 s) ≡ swapped_sum s
unfolding halves
halves_sum zero [] long small = omega arith
halves_sum (suc n) [] long small = omega arith
halves_sum zero (a ∷ s) long small = omega arith
halves_sum (suc n) (a ∷ []) long small = omega arith
halves_sum (suc n) (a ∷ b ∷ []) long small = omega arith
halves_sum (suc n) (a ∷ b ∷ c ∷ []) long small = omega arith
halves_sum (suc n) (a ∷ b ∷ c ∷ d ∷ s) long small =
    let bound_a : a < 256 = small.0.fits in
    let bound_b : b < 256 = small.1.0.fits in
    let bound_c : c < 256 = small.1.1.0.fits in
    let bound_d : d < 256 = small.1.1.1.0.fits in
    let x = number_l 256 (a ∷ b ∷ c ∷ d ∷ s) in
    let first : x % 4294967296 ≡ a + 256 * b + 65536 * (c + 256 * d) = omega arith in
    let later : x / 4294967296 ≡ number_l 256 s = omega arith in
    let rest : halves n (number_l 256 s) ≡ swapped_sum s = halves_sum n s (omega arith) small.1.1.1.1 in
    omega (arith, halves_step n x, ap (halves n) later, rest, first)

pub block_sum : (s : List ℕ) → length s ≡ 32 → ((k : ℕ) → Fits w8 (get_or s k 0))
    → sum_l (lows 8 (number_l 256 (take 32 s))) + sum_l (highs 8 (number_l 256 (take 32 s))) ≡ swapped_sum s
unfolding halves
block_sum s long fits =
    let room : 32 ≤ length s = omega arith in
    let whole : take 32 s ≡ s = take_all 32 s (omega arith) in
    halves_sum 8 (take 32 s) (length-chunk 0 32 s room) (chunk-fits w8 0 32 s fits) ∙ ap swapped_sum whole

-- two vectors added lane by lane
pub sum_of_two : (k l : List ℕ) → length k ≡ length l → sum_l (zip2 (λ x y. x + y) k l) ≡ sum_l k + sum_l l
sum_of_two k l e = sum-zip2 k l e
