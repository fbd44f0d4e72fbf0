-- Sums of the words of bytes that come in pieces, and the two orders of the bytes in a word.
use Rattle.std.proofs.Common.{◌≡◌, ℕ, zero, suc, ◌+◌, ◌*◌, ◌/◌, ◌%◌, ◌<◌, ◌≤◌, List, [], ◌∷◌, ◌++◌, length, get_or, length-append, Bool, not, nat_eq, cond, ◌⊎◌, inl, inr, ap₂, Fits, w8, refl, sym, ap, ◌∙◌, arith}
use Rattle.std.specs.Int.{w16, swap_bytes}
use mathlib.Core.Bool.{beq}
use Rattle.flat_model.specs.Packets.Checksum.{word_sum, fold16, folded_sum}
use Rattle.flat_model.proofs.Laws.{fold16-high, fold16-small, fold16-shift, fold16-below, fold16-add_first, fold16-add_second}
use Rattle.in_cksum.specs.Partial.{Partial, sum_of}
use Rattle.in_cksum.specs.Inside.{swapped_sum}

-- the bytes at even places, and those at odd places
firsts : List ℕ → ℕ
firsts [] = 0
firsts (a ∷ []) = a
firsts (a ∷ b ∷ s) = a + firsts s

seconds : List ℕ → ℕ
seconds [] = 0
seconds (a ∷ []) = 0
seconds (a ∷ b ∷ s) = b + seconds s

word_sum_parts : (s : List ℕ) → word_sum s ≡ 256 * firsts s + seconds s
unfolding firsts seconds
word_sum_parts [] = refl
word_sum_parts (a ∷ []) = omega arith
word_sum_parts (a ∷ b ∷ s) = omega (arith, word_sum_parts s)

swapped_sum_parts : (s : List ℕ) → swapped_sum s ≡ firsts s + 256 * seconds s
unfolding firsts seconds
swapped_sum_parts [] = refl
swapped_sum_parts (a ∷ []) = omega arith
swapped_sum_parts (a ∷ b ∷ s) = omega (arith, swapped_sum_parts s)

-- a shift by 8 bits swaps the bytes of each word
shift-swapped_sum : (s : List ℕ) → fold16 (256 * swapped_sum s) ≡ fold16 (word_sum s)
shift-swapped_sum s =
    let parts : 256 * swapped_sum s ≡ 65536 * seconds s + 256 * firsts s = omega (arith, swapped_sum_parts s) in
    let back : seconds s + 256 * firsts s ≡ word_sum s = omega (arith, word_sum_parts s) in
    ap fold16 parts ∙ fold16-high (seconds s) (256 * firsts s) ∙ ap fold16 back

-- `swap_bytes` of a folded sum is that shift
swap-fold16 : (n : ℕ) → swap_bytes w16 (fold16 n) ≡ fold16 (256 * n)
swap-fold16 n =
    let m = fold16 n in
    let below : m < 65536 = fold16-below n in
    let parts : 256 * m ≡ 65536 * (m / 256) + 256 * (m % 256) = omega arith in
    let swapped : m / 256 + 256 * (m % 256) ≡ swap_bytes w16 m = omega arith in
    sym (sym (fold16-shift n) ∙ ap fold16 parts ∙ fold16-high (m / 256) (256 * (m % 256))
    ∙ fold16-small (m / 256 + 256 * (m % 256)) (omega arith) ∙ swapped)

pub swap-swapped_sum : (s : List ℕ) → swap_bytes w16 (fold16 (swapped_sum s)) ≡ folded_sum s
swap-swapped_sum s = swap-fold16 (swapped_sum s) ∙ shift-swapped_sum s

-- one more byte at the front
word_sum-cons : (a : ℕ) (s : List ℕ) → word_sum (a ∷ s) ≡ 256 * a + swapped_sum s
word_sum-cons a [] = omega arith
word_sum-cons a (b ∷ []) = omega arith
word_sum-cons a (b ∷ c ∷ s) = omega (arith, word_sum-cons c s)

-- after an even number of bytes the words of the rest are unchanged
word_sum-append_even : (s t : List ℕ) → length s % 2 ≡ 0 → word_sum (s ++ t) ≡ word_sum s + word_sum t
word_sum-append_even [] t even = omega arith
word_sum-append_even (a ∷ []) t even = omega arith
word_sum-append_even (a ∷ b ∷ s) t even = omega (arith, word_sum-append_even s t (omega arith))

swapped_sum-append_even : (s t : List ℕ) → length s % 2 ≡ 0 → swapped_sum (s ++ t) ≡ swapped_sum s + swapped_sum t
swapped_sum-append_even [] t even = omega arith
swapped_sum-append_even (a ∷ []) t even = omega arith
swapped_sum-append_even (a ∷ b ∷ s) t even = omega (arith, swapped_sum-append_even s t (omega arith))

-- after an odd number of bytes, each byte of the rest is in the other half of its word
word_sum-append_odd : (s t : List ℕ) → length s % 2 ≡ 1 → word_sum (s ++ t) ≡ word_sum s + swapped_sum t
word_sum-append_odd [] t odd = omega arith
word_sum-append_odd (a ∷ []) t odd = word_sum-cons a t
word_sum-append_odd (a ∷ b ∷ s) t odd = omega (arith, word_sum-append_odd s t (omega arith))

pub swapped_sum_bound : (s : List ℕ) → ((k : ℕ) → Fits w8 (get_or s k 0)) → swapped_sum s ≤ 65280 * length s
swapped_sum_bound [] fits = omega arith
swapped_sum_bound (a ∷ []) fits = omega (arith, (fits 0).fits)
swapped_sum_bound (a ∷ b ∷ s) fits =
    omega (arith, (fits 0).fits, (fits 1).fits, swapped_sum_bound s (λ k. fits (suc (suc k))))

pub swapped_sum_none : (s : List ℕ) → length s ≡ 0 → swapped_sum s ≡ 0
swapped_sum_none [] none = refl
swapped_sum_none (a ∷ s) none = absurd (omega (arith, none))

-- a cut after an even number of bytes
pub swapped_sum_cut : (s t whole : List ℕ) → whole ≡ s ++ t → length s % 2 ≡ 0
    → swapped_sum s + swapped_sum t ≡ swapped_sum whole
swapped_sum_cut s t whole cut even = sym (ap swapped_sum cut ∙ swapped_sum-append_even s t even)

-- one more part, of which only the folded sum is kept
pub swapped_part_added : (total : ℕ) (part after rest : List ℕ)
    → swapped_sum part + swapped_sum after ≡ swapped_sum rest
    → fold16 (fold16 (total + swapped_sum part) + swapped_sum after) ≡ fold16 (total + swapped_sum rest)
swapped_part_added total part after rest cut =
    let whole : total + swapped_sum part + swapped_sum after ≡ total + swapped_sum rest = omega arith in
    fold16-add_first (total + swapped_sum part) (swapped_sum after) ∙ ap fold16 whole

parity : (n : ℕ) → (n % 2 ≡ 0) ⊎ (n % 2 ≡ 1)
parity zero = inl (omega arith)
parity (suc n) = elim (parity n) [ inl e ↦ inr (omega arith) | inr o ↦ inl (omega arith) ]

-- the remainder of a sum, in the form in which `rw` looks for it
sum_of_parities : (m n p : ℕ) → (m + n) % 2 ≡ p → (m + n) % 2 ≡ p
sum_of_parities m n p h = h

-- whether the sum of two numbers is odd
odd-add : (m n : ℕ) → not (beq (nat_eq (m % 2) 1) (nat_eq (n % 2) 1)) ≡ nat_eq ((m + n) % 2) 1
odd-add m n =
    elim (parity m) [
      | inl e ↦ elim (parity n) [
        | inl f ↦ rw (e, f, sum_of_parities m n 0 (omega arith)) refl
        | inr f ↦ rw (e, f, sum_of_parities m n 1 (omega arith)) refl
      ]
      | inr e ↦ elim (parity n) [
        | inl f ↦ rw (e, f, sum_of_parities m n 1 (omega arith)) refl
        | inr f ↦ rw (e, f, sum_of_parities m n 0 (omega arith)) refl
      ]
    ]

-- folding each of two numbers first doesn't change the folded sum
same_sums : (a b c d : ℕ) → fold16 a ≡ fold16 c → fold16 b ≡ fold16 d → fold16 (a + b) ≡ fold16 (c + d)
same_sums a b c d e f =
    sym (fold16-add_second a b) ∙ sym (fold16-add_first a (fold16 b)) ∙ (λ j. fold16 (e j + f j))
    ∙ fold16-add_first c (fold16 d) ∙ fold16-add_second c d

-- a sum in the order of memory, shifted by 8 bits
shifted_back : (s : List ℕ) (raw : ℕ) → fold16 raw ≡ fold16 (swapped_sum s) → fold16 (256 * raw) ≡ fold16 (word_sum s)
shifted_back s raw is =
    sym (fold16-shift raw) ∙ ap (λ n. fold16 (256 * n)) is ∙ fold16-shift (swapped_sum s) ∙ shift-swapped_sum s

folded_sum-append : (s t : List ℕ) (sum raw : ℕ) → fold16 sum ≡ folded_sum s → fold16 raw ≡ fold16 (swapped_sum t)
    → fold16 (sum + cond (nat_eq (length s % 2) 1) raw (256 * raw)) ≡ folded_sum (s ++ t)
folded_sum-append s t sum raw sum_is raw_is =
    elim (parity (length s)) [
      | inl even ↦ rw even (same_sums sum (256 * raw) (word_sum s) (word_sum t) sum_is (shifted_back t raw raw_is)
          ∙ sym (ap fold16 (word_sum-append_even s t even)))
      | inr odd ↦ rw odd (same_sums sum raw (word_sum s) (swapped_sum t) sum_is raw_is
          ∙ sym (ap fold16 (word_sum-append_odd s t odd)))
    ]

abbrev pair : ℕ → Bool → Partial
pair n b = record { total = n; is_odd = b }

-- one more piece
pub sum_of-append : (s t : List ℕ) (sum raw new : ℕ) (odd : Bool)
    → record { total = fold16 sum; is_odd = odd } ≡ sum_of s → fold16 raw ≡ fold16 (swapped_sum t)
    → fold16 new ≡ fold16 (sum + cond odd raw (256 * raw))
    → record { total = fold16 new; is_odd = not (beq odd (nat_eq (length t % 2) 1)) } ≡ sum_of (s ++ t)
sum_of-append s t sum raw new odd known raw_is new_is =
    let parity_is : odd ≡ nat_eq (length s % 2) 1 = ap (λ (p : Partial). p.is_odd) known in
    let folded : fold16 new ≡ folded_sum (s ++ t) =
    new_is ∙ ap (λ b. fold16 (sum + cond b raw (256 * raw))) parity_is
    ∙ folded_sum-append s t sum raw (ap (λ (p : Partial). p.total) known) raw_is in
    let is_odd : not (beq odd (nat_eq (length t % 2) 1)) ≡ nat_eq (length (s ++ t) % 2) 1 =
    ap (λ b. not (beq b (nat_eq (length t % 2) 1))) parity_is ∙ odd-add (length s) (length t)
    ∙ sym (ap (λ n. nat_eq (n % 2) 1) (length-append s t)) in
    ap₂ pair folded is_odd
