-- The lines of a script of a capture, and what they request.
use Rattle.std.proofs.Common.{◌≡◌, ℕ, suc, ◌/◌, ◌%◌, ◌<◌, ◌≤◌, ◌==◌, true, false, List, [], ◌∷◌, ◌++◌, length, slice_index, codes, inl, inr, refl, sym, ap, ◌∙◌, arith}
use Rattle.std.specs.List.{onto_first}
use Rattle.std.proofs.lemmas.Bool.{eqb-true}
use Rattle.std.proofs.lemmas.List.Splits.{slice_split-cons_no, slice_split-cons_yes}
use Rattle.std.proofs.lemmas.Option.{none-some}
use Rattle.hex.specs.Hex.{IsBytes, encode_lower, encode_with, hex_digit_value, lower_digits}
use Rattle.hex.proofs.HexLemmas.{IsDigits-lower_digits, decode_of-encode_lower, length-encode_with}
use Rattle.flat_model.specs.Machine.Event.{Comes}
use Rattle.flat_model.specs.Scripts.Grammar.{IsHex, IsLine, words}
use Rattle.flat_model.specs.Scripts.Texts.{hex_text}

-- a digit isn't a space
no_space : (d : ℕ) → d < 16 → (slice_index lower_digits d == 32) ≡ false
no_space d lt = elim (slice_index lower_digits d == 32) as (λ b. (slice_index lower_digits d == 32) ≡ b → b ≡ false) [
  | true ↦ λ is. absurd (none-some d
      (ap hex_digit_value (sym (eqb-true (slice_index lower_digits d) 32 is)) ∙ IsDigits-lower_digits d lt))
  | false ↦ λ is. refl
] refl

one_word : (bytes : List ℕ) → IsBytes bytes → words (encode_lower bytes) ≡ encode_lower bytes ∷ []
unfolding encode_with
one_word [] h = refl
one_word (b ∷ bytes) h =
    let fits : b < 256 = h 0 in
    let high = no_space (b / 16) (omega arith) in
    let low = no_space (b % 16) (omega arith) in
    let rest = one_word bytes (λ k. h (suc k)) in
    slice_split-cons_no (λ byte. byte == 32) (slice_index lower_digits (b / 16))
    (slice_index lower_digits (b % 16) ∷ encode_lower bytes) high
    ∙ ap (onto_first (slice_index lower_digits (b / 16)))
    (slice_split-cons_no (λ byte. byte == 32) (slice_index lower_digits (b % 16)) (encode_lower bytes) low
    ∙ ap (onto_first (slice_index lower_digits (b % 16))) rest)

behind_rx : (text : List ℕ) → words (codes "rx " ++ text) ≡ codes "rx" ∷ words text
behind_rx text =
    slice_split-cons_no (λ byte. byte == 32) 114 (120 ∷ 32 ∷ text) refl
    ∙ ap (onto_first 114) (slice_split-cons_no (λ byte. byte == 32) 120 (32 ∷ text) refl
    ∙ ap (onto_first 120) (slice_split-cons_yes (λ byte. byte == 32) 32 text refl))

asks : (text packet : List ℕ) → length text ≤ 131_070 → words text ≡ text ∷ [] → IsHex text packet
    → IsLine (codes "rx " ++ text) (Comes packet)
asks text packet short one hex = record {
  short = omega arith;
  args = text ∷ [];
  words_are = behind_rx text ∙ ap (λ (ws : List (List ℕ)). codes "rx" ∷ ws) one;
  arguments = (text, refl, hex);
}

not_empty : (b : ℕ) (bytes : List ℕ) → (length (b ∷ bytes) == 0) ≡ false
not_empty b bytes = elim (length (b ∷ bytes) == 0) as (λ t. (length (b ∷ bytes) == 0) ≡ t → t ≡ false) [
  | true ↦ λ is.
      let zero : length (b ∷ bytes) ≡ 0 = eqb-true (length (b ∷ bytes)) 0 is in absurd (omega arith)
  | false ↦ λ is. refl
] refl

pub line_asks : (packet : List ℕ) → IsBytes packet → length packet ≤ 65_535
    → IsLine (codes "rx " ++ hex_text packet) (Comes packet)
line_asks [] h short = asks (codes "-") [] (omega arith) refl (inl (refl, refl))
line_asks (b ∷ bytes) h short =
    let len = length-encode_with lower_digits (b ∷ bytes) in
    rw (not_empty b bytes)
    (asks (encode_lower (b ∷ bytes)) (b ∷ bytes) (omega (arith, len)) (one_word (b ∷ bytes) h)
    (inr (omega arith, short, decode_of-encode_lower (b ∷ bytes) h)))
