-- The bytes that a word writes, as a relation and as a function.
use Rattle.std.proofs.Common.{◌≡◌, ◌≤◌, ◌<◌, ℕ, true, false, cond, List, [], length, take, codes, MatchOption, bytes_eq, Option, Some, None, Result, Ok, Err, inl, inr, refl, sym, arith, subst}
use Rattle.std.proofs.lemmas.Slice.Eq.{bytes_eq-Decides}
use Rattle.hex.specs.Hex.{decode_of}
use Rattle.hex.specs.declared.error.FromHexError.{FromHexError}
use Rattle.hex.proofs.HexLemmas.{decode_of-ok}
use Rattle.flat_model.specs.Scripts.Grammar.{IsHex}
use Rattle.play_packet.specs.Numbers.{word_bytes, some_bytes, front_of_room}

bytes_eq-true : (a b : List ℕ) → a ≡ b → bytes_eq a b ≡ true
bytes_eq-true a b e = (bytes_eq-Decides a b).1 e

-- a dash isn't a pair of digits
not_dash : (word bytes : List ℕ) → decode_of word ≡ Ok bytes → bytes_eq word (codes "-") ≡ false
not_dash word bytes e = elim (bytes_eq word (codes "-")) as (λ b. bytes_eq word (codes "-") ≡ b → b ≡ false) [
  | true ↦ λ is.
      let same : word ≡ codes "-" = (bytes_eq-Decides word (codes "-")).0 is in
      let even = (decode_of-ok (codes "-") bytes (subst (λ (w : List ℕ). decode_of w ≡ Ok bytes) same e)).0 in
      absurd (omega (arith, even))
  | false ↦ λ is. refl
] refl

sized : (bytes : List ℕ) → 0 < length bytes → length bytes ≤ 65535 → some_bytes (Ok bytes) ≡ Some bytes
sized bytes some most = grind arith

pub IsHex-bytes_in : (word bytes : List ℕ) → IsHex word bytes → word_bytes word ≡ Some bytes
IsHex-bytes_in word bytes (inl (dash, none)) = rw (bytes_eq-true word (codes "-") dash, none) refl
IsHex-bytes_in word bytes (inr (some, most, decoded)) =
    rw (not_dash word bytes decoded, decoded) (sized bytes some most)

unsized : (bytes : List ℕ) → (0 < length bytes → length bytes ≤ 65535 → ⊥) → some_bytes (Ok bytes) ≡ None
unsized bytes none = grind arith

undecoded : (word : List ℕ) (r : Result (List ℕ) FromHexError) → decode_of word ≡ r
    → ((bytes : List ℕ) → IsHex word bytes → ⊥)
    → some_bytes r ≡ None
undecoded word (Err fault) e none = refl
undecoded word (Ok bytes) e none = unsized bytes (λ some most. none bytes (inr (some, most, e)))

pub no_bytes : (word : List ℕ) → ((bytes : List ℕ) → IsHex word bytes → ⊥) → word_bytes word ≡ None
no_bytes word none = elim (bytes_eq word (codes "-")) as (λ b. bytes_eq word (codes "-") ≡ b
    → cond b (Some []) (some_bytes (decode_of word)) ≡ None) [
      | true ↦ λ is. absurd (none [] (inl ((bytes_eq-Decides word (codes "-")).0 is, refl)))
      | false ↦ λ is. undecoded word (decode_of word) refl none
    ] refl

-- the first n bytes of a buffer are those that a word writes
pub bytes-are : (word room : List ℕ) (r : Option ℕ)
    → MatchOption r ((bytes : List ℕ) → IsHex word bytes → ⊥) (λ n. IsHex word (take n room))
    → front_of_room room r ≡ word_bytes word
bytes-are word room None h = sym (no_bytes word h)
bytes-are word room (Some n) h = sym (IsHex-bytes_in word (take n room) h)
