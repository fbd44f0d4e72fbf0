-- A string can be read back.
use Rattle.std.proofs.Common.{◌≡◌, ℕ, suc, ◌/◌, ◌%◌, ◌<◌, ◌≤◌, ◌⊎◌, List, [], ◌∷◌, ◌++◌, All, Some, inl, inr, refl, sym, ap, ◌∙◌, subst, arith, append_assoc, flat_map}
use Rattle.std.proofs.lemmas.Bool.{cases_eq, cases_lt, ne_eqb, le-ltb, lt-ltb, lt-leb}
use Rattle.std.proofs.lemmas.Str.{digit_value-digit_char, encode_ascii}
use Rattle.std.specs.Char.{digit_char, encode_utf8}
use Rattle.json.specs.Text.{code_unit, content, plain, prepend, short_escape}
use Rattle.play_text.specs.Strings.{code_text, escaped, escaped_byte}

-- two digits are read as the number
unit : (byte : ℕ) → byte < 256 → code_unit 48 48 (digit_char (byte / 16)) (digit_char (byte % 16)) ≡ Some byte
unfolding code_unit
unit byte h =
    let high : byte / 16 < 16 = omega (arith, h) in
    let low : byte % 16 < 16 = omega arith in
    rw (
      digit_value-digit_char (byte / 16) (omega (arith, high)),
      digit_value-digit_char (byte % 16) (omega (arith, low)),
      lt-ltb (byte / 16) 16 high,
      lt-ltb (byte % 16) 16 low,
    )
    (ap Some (omega arith))

coded : (byte : ℕ) (r : List ℕ) → byte < 256
    → content plain (code_text byte ++ r) ≡ prepend (encode_utf8 byte) (content plain r)
unfolding content
coded byte r h = rw (unit byte h, lt-leb 55296 byte (omega (arith, h)), lt-leb 56320 byte (omega (arith, h))) refl

-- reading the escape of a byte before any text gives the byte, and then the text
abbrev Reads : ℕ → Type 0
Reads byte = (r : List ℕ) → content plain (escaped_byte byte ++ r) ≡ prepend (encode_utf8 byte) (content plain r)

reads_quote : Reads 34
unfolding content short_escape encode_utf8
reads_quote r = refl

reads_backslash : Reads 92
unfolding content short_escape encode_utf8
reads_backslash r = refl

plain_is : (byte : ℕ) → (byte ≡ 34 → ⊥) → (byte ≡ 92 → ⊥) → 32 ≤ byte → byte < 127 → escaped_byte byte ≡ byte ∷ []
plain_is byte q b l u =
    rw (ne_eqb byte 34 q, ne_eqb byte 92 b, le-ltb byte 32 l, le-ltb 126 byte (omega (arith, u))) refl

itself : (byte : ℕ) (r : List ℕ) → (byte ≡ 34 → ⊥) → (byte ≡ 92 → ⊥) → 32 ≤ byte → byte < 127
    → content plain (byte ∷ r) ≡ prepend (encode_utf8 byte) (content plain r)
unfolding content
itself byte r q b l u =
    rw (ne_eqb byte 34 q, ne_eqb byte 92 b, le-ltb byte 32 l, encode_ascii byte (omega (arith, u))) refl

reads_plain : (byte : ℕ) → (byte ≡ 34 → ⊥) → (byte ≡ 92 → ⊥) → 32 ≤ byte → byte < 127 → Reads byte
reads_plain byte q b l u r = ap (λ t. content plain (t ++ r)) (plain_is byte q b l u) ∙ itself byte r q b l u

code_is : (byte : ℕ) → (byte ≡ 34 → ⊥) → (byte ≡ 92 → ⊥) → (byte < 32) ⊎ (127 ≤ byte)
    → escaped_byte byte ≡ code_text byte
code_is byte q b (inl l) = rw (ne_eqb byte 34 q, ne_eqb byte 92 b, lt-ltb byte 32 l) refl
code_is byte q b (inr l) =
    rw (ne_eqb byte 34 q, ne_eqb byte 92 b, le-ltb byte 32 (omega (arith, l)), lt-ltb 126 byte (omega (arith, l))) refl

reads_coded : (byte : ℕ) → (byte ≡ 34 → ⊥) → (byte ≡ 92 → ⊥) → (byte < 32) ⊎ (127 ≤ byte) → byte < 256 → Reads byte
reads_coded byte q b l h r = ap (λ t. content plain (t ++ r)) (code_is byte q b l) ∙ coded byte r h

reads : (byte : ℕ) → byte < 256 → Reads byte
reads byte h = go (cases_eq byte 34) (cases_eq byte 92) (cases_lt byte 32) (cases_lt byte 127)
  where
    go : (byte ≡ 34) ⊎ (byte ≡ 34 → ⊥) → (byte ≡ 92) ⊎ (byte ≡ 92 → ⊥) → (byte < 32) ⊎ (32 ≤ byte)
        → (byte < 127) ⊎ (127 ≤ byte)
        → Reads byte
    go (inl e) b l u = subst Reads (sym e) reads_quote
    go (inr q) (inl e) l u = subst Reads (sym e) reads_backslash
    go (inr q) (inr b) (inl l) u = reads_coded byte q b (inl l) h
    go (inr q) (inr b) (inr l) (inl u) = reads_plain byte q b l u
    go (inr q) (inr b) (inr l) (inr u) = reads_coded byte q b (inr u) h

pub read_back : (bytes after : List ℕ) → All (λ byte. byte < 256) bytes
    → content plain (escaped bytes ++ 34 ∷ after) ≡ Some (flat_map encode_utf8 bytes)
unfolding content
read_back [] after h = refl
read_back (byte ∷ bytes) after h =
    let first : byte < 256 = h 0 0 (omega arith) in
    let others : All (λ b. b < 256) bytes = λ k d lt. h (suc k) d (omega (arith, lt)) in
    ap (content plain) (append_assoc (escaped_byte byte) (escaped bytes) (34 ∷ after))
    ∙ reads byte first (escaped bytes ++ 34 ∷ after) ∙ ap (prepend (encode_utf8 byte)) (read_back bytes after others)
