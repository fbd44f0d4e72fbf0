-- The laws of `fold16`, also for the crates above: it depends on the sum up to multiples of 65,535, and
-- on whether the sum is 0.
use Rattle.std.proofs.Common.{◌≡◌, ℕ, zero, suc, ◌+◌, ◌*◌, ◌/◌, ◌%◌, ◌<◌, inl, inr, refl, sym, ap, ◌∙◌, arith, eq-zero-or-pos}
use Rattle.std.proofs.Math.Nat.{mul-add-mod_self_left}
use Rattle.flat_model.specs.Packets.Checksum.{fold16}

pub fold16-below : (n : ℕ) → fold16 n < 65536
fold16-below zero = omega arith
fold16-below (suc n) = omega arith

pub fold16-small : (n : ℕ) → n < 65536 → fold16 n ≡ n
fold16-small zero h = refl
fold16-small (suc n) h = omega arith

-- a sum above 0 and a multiple of 65,535
fold16-more : (k n : ℕ) → 0 < n → fold16 (65535 * k + n) ≡ fold16 n
fold16-more k zero h = omega arith
fold16-more k (suc n) h =
    let split : 65535 * k + suc n ≡ suc (65535 * k + n) = omega arith in
    ap fold16 split ∙ ap (λ m. m + 1) (mul-add-mod_self_left 65535 k n)

-- how often 65,535 was taken from a sum
times : ℕ → ℕ
times zero = 0
times (suc n) = n / 65535

fold16_parts : (n : ℕ) → n ≡ 65535 * times n + fold16 n
unfolding times
fold16_parts zero = omega arith
fold16_parts (suc n) = omega arith

fold16_positive : (n : ℕ) → 0 < n → 0 < fold16 n
fold16_positive zero h = h
fold16_positive (suc n) h = omega arith

-- a part may be folded first
pub fold16-add_first : (a b : ℕ) → fold16 (fold16 a + b) ≡ fold16 (a + b)
fold16-add_first a b =
    elim (eq-zero-or-pos a) [
      | inl none ↦ ap (λ n. fold16 (n + b)) (ap fold16 none ∙ sym none)
      | inr some ↦
          let parts : a + b ≡ 65535 * times a + (fold16 a + b) = omega (arith, fold16_parts a) in
          sym (ap fold16 parts ∙ fold16-more (times a) (fold16 a + b) (omega (arith, fold16_positive a some)))
    ]

pub fold16-add_second : (a b : ℕ) → fold16 (a + fold16 b) ≡ fold16 (a + b)
fold16-add_second a b =
    ap fold16 (omega arith) ∙ fold16-add_first b a ∙ ap fold16 (omega arith)

-- and so may a sum that is shifted by 8 bits
pub fold16-shift : (n : ℕ) → fold16 (256 * fold16 n) ≡ fold16 (256 * n)
fold16-shift n =
    elim (eq-zero-or-pos n) [
      | inl none ↦ ap (λ m. fold16 (256 * m)) (ap fold16 none ∙ sym none)
      | inr some ↦
          let parts : 256 * n ≡ 65535 * (256 * times n) + 256 * fold16 n = omega (arith, fold16_parts n) in
          sym (ap fold16 parts ∙ fold16-more (256 * times n) (256 * fold16 n) (omega (arith, fold16_positive n some)))
    ]

-- the part above 16 bits can be added to the low one
pub fold16-high : (a b : ℕ) → fold16 (65536 * a + b) ≡ fold16 (a + b)
fold16-high a b =
    elim (eq-zero-or-pos (a + b)) [
      | inl none ↦ let same : 65536 * a + b ≡ a + b = omega arith in ap fold16 same
      | inr some ↦ let parts : 65536 * a + b ≡ 65535 * a + (a + b) = omega arith in
          ap fold16 parts ∙ fold16-more a (a + b) some
    ]

pub fold16-halves : (n : ℕ) → fold16 (n / 65536 + n % 65536) ≡ fold16 n
fold16-halves n =
    let parts : n ≡ 65536 * (n / 65536) + n % 65536 = omega arith in
    sym (ap fold16 parts ∙ fold16-high (n / 65536) (n % 65536))
