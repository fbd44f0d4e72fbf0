-- The packets of a send pass every test of an arrival: their checksums are right.
use Rattle.std.proofs.Common.{◌≡◌, ℕ, zero, suc, ◌+◌, ◌-◌, ◌*◌, ◌/◌, ◌%◌, ◌<◌, ◌≤◌, Bool, true, false, List, [], ◌∷◌, ◌++◌, length, take, refl, ◌∙◌, ap, arith, None, cond}
use Rattle.std.specs.Prelude.{nat_lt, ◌==◌, not, slice_index, ⊤}
use Rattle.std.proofs.lemmas.Bool.{le-ltb, eq-eqb, eqb-true}
use Rattle.std.proofs.lemmas.List.{take_all}
use Rattle.flat_model.specs.Packets.Checksum.{word_sum, fold16, folded_sum, checksum}
use Rattle.flat_model.specs.Packets.Header.{Head, packet, udp, front_bytes, address_bytes, two_bytes, pseudo_header, not_zero, u16_at, head_fault, udp_fault, total_of}
use Rattle.flat_model.proofs.Laws.{length-udp}
use Rattle.flat_wire.proofs.Decode.{total_read}

two : (n : ℕ) → 256 * (n / 256) + n % 256 ≡ n
two n = omega arith

-- ---- a sum with its checksum is 65,535

fold_suc : (n m : ℕ) → n ≡ suc m → fold16 n ≡ m % 65535 + 1
fold_suc n m e = ap fold16 e

complemented : (w c : ℕ) → 0 < w → (c ≡ 65535 - fold16 w) → fold16 (w + c) ≡ 65535
complemented zero c some e = absurd (omega (arith, some))
complemented (suc m) c some e =
    fold_suc (suc m + c) (m + c) (omega arith) ∙ (let is : c ≡ 65535 - (m % 65535 + 1) = e in omega arith)

-- a checksum of 0 is written as 65,535, which adds nothing
replaced : (w c : ℕ) → 0 < w → c ≡ not_zero (65535 - fold16 w) → fold16 (w + c) ≡ 65535
replaced w c some e = go (65535 - fold16 w == 0) refl
  where
    whole : (w : ℕ) → 0 < w → 65535 - fold16 w ≡ 0 → fold16 (w + 65535) ≡ 65535
    whole zero some none = absurd (omega (arith, some))
    whole (suc m) some none =
        fold_suc (suc m + 65535) (m + 65535) (omega arith)
        ∙ (let is : 65535 - (m % 65535 + 1) ≡ 0 = none in omega arith)

    go : (b : Bool) → (65535 - fold16 w == 0) ≡ b → fold16 (w + c) ≡ 65535
    go true none =
        ap (λ k. fold16 (w + k)) (e ∙ ap (λ b. cond b 65535 (65535 - fold16 w)) none)
        ∙ whole w some (eqb-true (65535 - fold16 w) 0 none)
    go false other = complemented w c some (e ∙ ap (λ b. cond b 65535 (65535 - fold16 w)) other)

-- ---- the tests in order

no_fault : (n : ℕ) → n ≡ 65535 → not (n == 65535) ≡ false
no_fault n e = ap not (eq-eqb n 65535 e)

-- a number in a blank field adds itself to the sum
abbrev IsEven : List ℕ → Type 0
IsEven [] = ⊤
IsEven (x ∷ []) = ⊥
IsEven (x ∷ y ∷ rest) = IsEven rest

written_sum : (front rest : List ℕ) (c : ℕ) → IsEven front
    → word_sum (front ++ c / 256 ∷ c % 256 ∷ rest) ≡ word_sum (front ++ 0 ∷ 0 ∷ rest) + c
written_sum [] rest c even = omega (arith, two c)
written_sum (x ∷ []) rest c even = absurd even
written_sum (x ∷ y ∷ front) rest c even = omega (arith, written_sum front rest c even)

module _ (h : Head) (t : List ℕ) where
  abbrev blank : List ℕ
  blank = front_bytes h (length t) ++ 0 ∷ 0 ∷ address_bytes h.source h.destination

  some : 0 < word_sum blank
  some = omega arith

  long : 20 + length t ≤ length (packet h t)
  unfolding packet
  long = omega arith

  sum_is : folded_sum (take 20 (packet h t)) ≡ 65535
  unfolding packet
  sum_is =
      ap fold16 (written_sum (front_bytes h (length t)) (address_bytes h.source h.destination) (checksum blank) tt)
      ∙ complemented (word_sum blank) (checksum blank) some refl

  first_byte : slice_index (packet h t) 0 ≡ 69
  unfolding packet
  first_byte = refl

  pub accepted_head : head_fault (packet h t) ≡ None
  accepted_head =
      let long_enough : nat_lt (length (packet h t)) 20 ≡ false =
      le-ltb (length (packet h t)) 20 (omega (arith, long)) in
      let right : not (folded_sum (take 20 (packet h t)) == 65535) ≡ false = no_fault _ sum_is in
      let total_long : nat_lt (total_of (packet h t)) 20 ≡ false =
      le-ltb (total_of (packet h t)) 20 (omega (arith, total_read h t)) in
      let all_there : nat_lt (length (packet h t)) (total_of (packet h t)) ≡ false =
      le-ltb (length (packet h t)) (total_of (packet h t)) (omega (arith, total_read h t, long)) in
      rw (long_enough, first_byte, right, total_long, all_there) refl

-- ---- the same for a datagram

module _ (source destination port to : ℕ) (s : List ℕ) where
  abbrev n : ℕ
  n = 8 + length s

  abbrev bytes : List ℕ
  bytes = udp source destination port to s

  abbrev unchecked : List ℕ
  unchecked =
      pseudo_header source destination n ++ two_bytes port ++ two_bytes to ++ two_bytes n ++ 0 ∷ 0 ∷ s

  abbrev written : ℕ
  written = not_zero (checksum unchecked)

  length_read : u16_at 4 bytes ≡ n
  unfolding udp
  length_read = two n

  unchecked_some : 0 < word_sum unchecked
  unchecked_some = omega arith

  datagram_sum : folded_sum (pseudo_header source destination n ++ bytes) ≡ 65535
  unfolding udp
  datagram_sum =
      ap fold16 (written_sum
      (pseudo_header source destination n ++ two_bytes port ++ two_bytes to ++ two_bytes n) s written tt)
      ∙ replaced (word_sum unchecked) written unchecked_some refl

  sum_read : folded_sum (pseudo_header source destination (u16_at 4 bytes) ++ take (u16_at 4 bytes) bytes) ≡ 65535
  sum_read =
      ap (λ k. folded_sum (pseudo_header source destination k ++ take k bytes)) length_read
      ∙ ap (λ b. folded_sum (pseudo_header source destination n ++ b))
      (take_all n bytes (omega (arith, length-udp source destination port to s)))
      ∙ datagram_sum

  pub accepted_udp : udp_fault source destination bytes ≡ None
  accepted_udp =
      let header : nat_lt (length bytes) 8 ≡ false =
      le-ltb (length bytes) 8 (omega (arith, length-udp source destination port to s)) in
      let all_there : nat_lt (length bytes) (u16_at 4 bytes) ≡ false =
      le-ltb (length bytes) (u16_at 4 bytes) (omega (arith, length_read, length-udp source destination port to s)) in
      let some : nat_lt (u16_at 4 bytes) 8 ≡ false = le-ltb (u16_at 4 bytes) 8 (omega (arith, length_read)) in
      rw (header, all_there, some, checked (u16_at 6 bytes == 0)) refl
    where
      checked : (b : Bool) → cond b false (not (folded_sum (pseudo_header source destination (u16_at 4 bytes) ++ take
          (u16_at 4 bytes) bytes) == 65535)) ≡ false
      checked true = refl
      checked false = no_fault _ sum_read
