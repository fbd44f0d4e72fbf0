-- A packet whose header has no fault has none after its fields are set.
use Rattle.std.proofs.Common.{◌≡◌, ℕ, ◌+◌, ◌-◌, ◌*◌, ◌/◌, ◌%◌, ◌≤◌, Bool, true, false, List, [], ◌∷◌, length, take, refl, sym, ◌∙◌, ap, arith, None}
use Rattle.std.specs.Prelude.{nat_lt, ◌==◌, not}
use Rattle.std.proofs.lemmas.Bool.{ltb-false}
use Rattle.std.proofs.lemmas.Option.{none-some}
use Rattle.flat_model.specs.declared.counters.Why.TheVariants.{TooSmall, BadVersion, BadHeaderLength, Options, BadSum, BadLength, TooShort}
use Rattle.flat_model.specs.Packets.Checksum.{fold16, folded_sum, word_sum}
use Rattle.flat_model.specs.Packets.Header.{head_fault, first_fault, two_bytes, total_of}
use Rattle.flat_model.proofs.Laws.{fold16-add_first, fold16-below}
use Rattle.ip_out.specs.Bytes.{written}
use Rattle.libbsdudp.specs.Mark.{blanked, marked}

-- a sum to which its complement was added
right_sum : (rest all : ℕ) → all ≡ rest + (256 * ((65535 - fold16 rest) / 256) + (65535 - fold16 rest) % 256)
    → fold16 all ≡ 65535
right_sum rest all is =
    let whole : all ≡ rest + (65535 - fold16 rest) = omega (arith, is) in
    let full : fold16 rest + (65535 - fold16 rest) ≡ 65535 = omega (arith, fold16-below rest) in
    ap fold16 whole ∙ sym (fold16-add_first rest (65535 - fold16 rest)) ∙ ap fold16 full

-- a number written into the checksum's field adds itself to the sum
sum_with : (ttl tos sum : ℕ) (bytes : List ℕ) → 12 ≤ length bytes
    → word_sum (take 20 (written (blanked ttl tos bytes) 10 (two_bytes sum)))
    ≡ word_sum (take 20 (blanked ttl tos bytes)) + (256 * (sum / 256) + sum % 256)
sum_with ttl tos sum (a ∷ b ∷ c ∷ d ∷ e ∷ f ∷ g ∷ h ∷ i ∷ j ∷ k ∷ l ∷ rest) long = omega arith
sum_with ttl tos sum bytes long = absurd (omega (arith, long))

marked_sum : (ttl tos : ℕ) (bytes : List ℕ) → 12 ≤ length bytes → folded_sum (take 20 (marked ttl tos bytes)) ≡ 65535
marked_sum ttl tos bytes long = right_sum _ _ (sum_with ttl tos _ bytes long)

-- a packet without a fault has a header
header_long : (bytes : List ℕ) → head_fault bytes ≡ None → 20 ≤ length bytes
header_long bytes passed = go (nat_lt (length bytes) 20) refl
  where
    go : (b : Bool) → nat_lt (length bytes) 20 ≡ b → 20 ≤ length bytes
    go false long = ltb-false (length bytes) 20 long
    go true short = absurd (none-some _ (sym (rw short at passed)))

-- whatever the sum was: no other test fails
other_tests : (few version short options wrong less cut after : Bool)
    → first_fault ((few, TooSmall) ∷ (version, BadVersion) ∷ (short, BadHeaderLength) ∷ (options, Options)
    ∷ (wrong, BadSum) ∷ (less, BadLength) ∷ (cut, TooShort) ∷ []) ≡ None → after ≡ false
    → first_fault ((few, TooSmall) ∷ (version, BadVersion) ∷ (short, BadHeaderLength) ∷ (options, Options)
    ∷ (after, BadSum) ∷ (less, BadLength) ∷ (cut, TooShort) ∷ []) ≡ None
other_tests false false false false false less cut after was now = rw now was
other_tests few version short options wrong less cut after was now = absurd (none-some _ (sym was))

pub stays_right : (ttl tos : ℕ) (bytes : List ℕ) → head_fault bytes ≡ None → head_fault (marked ttl tos bytes) ≡ None
stays_right ttl tos (a ∷ b ∷ c ∷ d ∷ e ∷ f ∷ g ∷ h ∷ i ∷ j ∷ k ∷ l ∷ rest) was =
    let bytes : List ℕ = a ∷ b ∷ c ∷ d ∷ e ∷ f ∷ g ∷ h ∷ i ∷ j ∷ k ∷ l ∷ rest in
    other_tests (nat_lt (length bytes) 20) (not (a / 16 == 4)) (nat_lt (a % 16) 5) (nat_lt 5 (a % 16))
    (not (folded_sum (take 20 bytes) == 65535)) (nat_lt (total_of bytes) 20) (nat_lt (length bytes) (total_of bytes))
    (not (folded_sum (take 20 (marked ttl tos bytes)) == 65535)) was
    (ap (λ n. not (n == 65535)) (marked_sum ttl tos bytes (omega (arith, header_long bytes was))))
stays_right ttl tos bytes was = absurd (none-some _ (sym was))
